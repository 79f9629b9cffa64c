use Rattle.std.proofs.Common.{◌≡◌, true, subst}
use Rattle.uc_text.specs.Lines.{words_of}
use Rattle.script_text.specs.declared.forms.Form.{Form}
use Rattle.script_text.specs.Forms.{has_form}
use Rattle.script_text.proofs.FormsFound.{boot_names}
use Rattle.uc_script.proofs.draft.Draft.add_single.Goals as goal

pub add_boot-requires : goal.add_boot-requires
add_boot-requires c =
    (boot_names (words_of c.args.line.now.text.now) (subst (λ (one : Form). has_form (words_of c.args.line.now.text.now) one ≡ true) c.in-Boot.is c.requires.form)).each
