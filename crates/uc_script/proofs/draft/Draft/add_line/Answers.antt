use Rattle.std.proofs.Common.{◌≡◌, Some, ap, sym, ◌∙◌}
use Rattle.uc_text.specs.Lines.{words_of}
use Rattle.script_text.specs.declared.forms.Form.TheVariants as form
use Rattle.script_text.specs.Forms.{form_of}
use Rattle.script_text.specs.Stands.{Before}
use Rattle.script_text.proofs.FormsFound.{form_passes, load_names, force_names}
use Rattle.uc_script.proofs.Lines.{load_goes_on, force_goes_on, single_outside, single_ok, single_err, none_goes_on}
use Rattle.uc_script.proofs.draft.Draft.add_line.Goals as goal

pub add_load-requires : goal.add_load-requires
add_load-requires c =
    (load_names (words_of c.args.line.now.text.now) (form_passes c.self.inside.place (words_of c.args.line.now.text.now) form.Load (sym c.form_of.ensures ∙ c.in-Some.is ∙ ap Some c.in-Load.is))).each

pub add_load-requires-in-LoadForce : goal.add_load-requires-in-LoadForce
add_load-requires-in-LoadForce c =
    (force_names (words_of c.args.line.now.text.now) (form_passes c.self.inside.place (words_of c.args.line.now.text.now) form.LoadForce (sym c.form_of.ensures ∙ c.in-Some.is ∙ ap Some c.in-LoadForce.is))).each

pub add_single-requires : goal.add_single-requires
add_single-requires c =
    let words = words_of c.args.line.now.text.now in
    let found : form_of c.self.inside.place words ≡ Some c.in-Some.form = sym c.form_of.ensures ∙ c.in-Some.is in
    record {
      single = single_outside c.self.inside.place words c.in-Some.form c.self.invariant found c.in_default-form.not-Load c.in_default-form.not-LoadForce;
      form = form_passes c.self.inside.place words c.in-Some.form found;
    }

pub returns-in_default : goal.returns-in_default
returns-in_default c =
    let words = words_of c.args.line.now.text.now in
    none_goes_on c.args.limits c.args.self.now c.args.self.now (c.args.line.now.number, c.args.line.now.text.now) _ c.without_form.result c.fault_at.result
    (ap (λ (b : Before). form_of b.place words) (sym c.self.view_is) ∙ sym c.form_of.ensures ∙ c.in_default.is) c.without_form.ensures c.fault_at.ensures

pub returns-in-Load : goal.returns-in-Load
returns-in-Load c =
    let words = words_of c.args.line.now.text.now in
    load_goes_on c.args.limits c.args.self.now (c.args.line.now.number, c.args.line.now.text.now) _ _ _ _
    (ap (λ (b : Before). form_of b.place words) (sym c.self.view_is) ∙ sym c.form_of.ensures ∙ c.in-Some.is ∙ ap Some c.in-Load.is) c.add_load.ensures

pub returns-in-LoadForce : goal.returns-in-LoadForce
returns-in-LoadForce c =
    let words = words_of c.args.line.now.text.now in
    force_goes_on c.args.limits c.args.self.now (c.args.line.now.number, c.args.line.now.text.now) _ _ _ _
    (ap (λ (b : Before). form_of b.place words) (sym c.self.view_is) ∙ sym c.form_of.ensures ∙ c.in-Some.is ∙ ap Some c.in-LoadForce.is) c.add_load-in-LoadForce.ensures

pub returns-in-Ok : goal.returns-in-Ok
returns-in-Ok c =
    let words = words_of c.args.line.now.text.now in
    single_ok c.args.limits c.args.self.now c.add_single.new.self (c.args.line.now.number, c.args.line.now.text.now) _ c.in-Some.form
    (ap (λ (b : Before). form_of b.place words) (sym c.self.view_is) ∙ sym c.form_of.ensures ∙ c.in-Some.is) c.in-Ok.ensures

pub returns-in-Err : goal.returns-in-Err
returns-in-Err c =
    let words = words_of c.args.line.now.text.now in
    single_err c.args.limits c.args.self.now c.add_single.new.self (c.args.line.now.number, c.args.line.now.text.now) _ c.in-Some.form c.in-Err.answer c.at.result
    (ap (λ (b : Before). form_of b.place words) (sym c.self.view_is) ∙ sym c.form_of.ensures ∙ c.in-Some.is) c.in-Err.ensures c.at.ensures
