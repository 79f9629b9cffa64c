-- Each line keeps to the limits, so that the whole script does.
use Rattle.std.proofs.Common.{◌≡◌, ◌+◌, ◌<◌, ◌≤◌, ℕ, Bool, true, false, not, List, [], ◌∷◌, ◌++◌, length, drop, Option, Some, refl, sym, subst, ◌∙◌, arith}
use Rattle.std.specs.List.{list_all}
use Rattle.std.proofs.lemmas.Bool.{leb-true, leb-false, ltb-true, ltb-false, le-leb, and_parts, and_from, false_from_ne_true}
use Rattle.std.proofs.lemmas.List.{length_push}
use Rattle.std.proofs.lemmas.List.Folds.{list_all-append}
use Rattle.uc_text.specs.Lines.{counted_lines, words_of}
use Rattle.script_text.specs.declared.command.Command.{Command}
use Rattle.script_text.specs.declared.command.Command.TheVariants as command
use Rattle.script_text.specs.declared.fault.ScriptCause.TheVariants.{Range, TooMany}
use Rattle.script_text.specs.declared.forms.Form.{Form}
use Rattle.script_text.specs.declared.forms.Form.TheVariants as form
use Rattle.script_text.specs.declared.forms.Limits.{Limits}
use Rattle.script_text.specs.declared.forms.Place.TheVariants.{InLoad}
use Rattle.script_text.specs.Stated.{Stated}
use Rattle.script_text.specs.Forms.{form_of}
use Rattle.script_text.specs.Stands.{Before, opening, after, with_command, with_load, second, beats_of}
use Rattle.script_text.specs.Within.{IsWithin, fits_command, fits_beat}
use Rattle.script_text.specs.Checks.{fails_at, in_range, is_too_many}
use Rattle.script_text.specs.Texts.{Adds, InTurn, States}
use Rattle.script_text.proofs.FormsFound.{AreNames, form_passes, only_inside, boot_names, load_names, force_names}

-- the load that is open keeps to the limits, and there is room for it
pub record KeepsOpen (limits : Limits) (before : Before) : Type 0 where
  pub room : length before.commands < 4096
  pub fits : fits_command limits (command.Load before.load.force before.load.names before.load.beats) ≡ true

-- what stands before a line keeps to the limits
pub record Keeps (limits : Limits) (before : Before) : Type 0 where
  pub some_block : 1 ≤ before.pool
  pub few_blocks : before.pool ≤ 65536
  pub few_polls : before.patience ≤ 4294967295
  pub few_commands : length before.commands ≤ 4096
  pub each : list_all (fits_command limits) before.commands ≡ true
  pub open_fits : before.place ≡ InLoad → KeepsOpen limits before

push_fits : (limits : Limits) (commands : List Command) (one : Command) → list_all (fits_command limits) commands ≡ true → fits_command limits one ≡ true → list_all (fits_command limits) (commands ++ one ∷ []) ≡ true
push_fits limits commands one each fits =
    list_all-append (fits_command limits) commands (one ∷ []) ∙ and_from _ _ each (and_from _ true fits refl)

command_keeps : (limits : Limits) (before : Before) (one : Command) → fits_command limits one ≡ true → length before.commands < 4096 → Keeps limits before → Keeps limits (with_command before one)
command_keeps limits before one fits room keeps = record {
  some_block = keeps.some_block;
  few_blocks = keeps.few_blocks;
  few_polls = keeps.few_polls;
  few_commands = omega (arith, length_push before.commands one);
  each = push_fits limits before.commands one keeps.each fits;
  open_fits = λ e. absurd cc;
}

load_keeps : (limits : Limits) (before : Before) (line : ℕ) (force : Bool) (names : List (List ℕ)) → AreNames 1 names → length before.commands < 4096 → Keeps limits before → Keeps limits (with_load before line force names)
load_keeps limits before line force names are room keeps = record {
  some_block = keeps.some_block;
  few_blocks = keeps.few_blocks;
  few_polls = keeps.few_polls;
  few_commands = keeps.few_commands;
  each = keeps.each;
  open_fits = λ e. record {
    room = room;
    fits = and_from _ _ (and_from _ _ (le-leb 1 (length names) are.least_is) (le-leb (length names) 16 are.most)) refl;
  };
}

-- what a line adds whose number is in range, and which is not too many
after_keeps : (limits : Limits) (before : Before) (line : ℕ) (one : Form) (words : List (List ℕ)) → form_of before.place words ≡ Some one → in_range limits one words ≡ true → is_too_many limits before one words ≡ false
    → Keeps limits before → Keeps limits (after before line one words)
after_keeps limits before line form.Title words is range few keeps = record {
  some_block = keeps.some_block;
  few_blocks = keeps.few_blocks;
  few_polls = keeps.few_polls;
  few_commands = keeps.few_commands;
  each = keeps.each;
  open_fits = λ e. absurd cc;
}
after_keeps limits before line form.Pool words is range few keeps =
    let parts = and_parts _ _ range in
    record {
      some_block = leb-true 1 (second words) parts.0;
      few_blocks = leb-true (second words) 65536 parts.1;
      few_polls = keeps.few_polls;
      few_commands = keeps.few_commands;
      each = keeps.each;
      open_fits = λ e. absurd cc;
    }
after_keeps limits before line form.Patience words is range few keeps =
    let below = ltb-true (second words) 4294967296 range in
    record {
      some_block = keeps.some_block;
      few_blocks = keeps.few_blocks;
      few_polls = omega arith;
      few_commands = keeps.few_commands;
      each = keeps.each;
      open_fits = λ e. absurd cc;
    }
after_keeps limits before line form.Boot words is range few keeps =
    command_keeps limits before (command.Boot (drop 1 words)) (le-leb _ 16 (boot_names words (form_passes before.place words form.Boot is)).most) (leb-false 4096 _ few) keeps
after_keeps limits before line form.Online words is range few keeps = command_keeps limits before (command.Online (second words)) range (leb-false 4096 _ few) keeps
after_keeps limits before line form.Offline words is range few keeps = command_keeps limits before (command.Offline (second words)) range (leb-false 4096 _ few) keeps
after_keeps limits before line form.Suspend words is range few keeps = command_keeps limits before command.Suspend refl (leb-false 4096 _ few) keeps
after_keeps limits before line form.Resume words is range few keeps = command_keeps limits before command.Resume refl (leb-false 4096 _ few) keeps
after_keeps limits before line form.Refuse words is range few keeps = command_keeps limits before (command.Refuse (second words)) range (leb-false 4096 _ few) keeps
after_keeps limits before line form.Accept words is range few keeps = command_keeps limits before (command.Accept (second words)) range (leb-false 4096 _ few) keeps
after_keeps limits before line form.Load words is range few keeps =
    load_keeps limits before line false (drop 1 words) (load_names words (form_passes before.place words form.Load is)) (leb-false 4096 _ few) keeps
after_keeps limits before line form.LoadForce words is range few keeps =
    load_keeps limits before line true (drop 1 words) (force_names words (form_passes before.place words form.LoadForce is)) (leb-false 4096 _ few) keeps
after_keeps limits before line form.End words is range few keeps =
    let load = keeps.open_fits (only_inside before.place words form.End refl is) in
    let one : Command = command.Load before.load.force before.load.names before.load.beats in
    record {
      some_block = keeps.some_block;
      few_blocks = keeps.few_blocks;
      few_polls = keeps.few_polls;
      few_commands = omega (arith, load.room, length_push before.commands one);
      each = push_fits limits before.commands one keeps.each load.fits;
      open_fits = λ e. absurd cc;
    }
after_keeps limits before line form.Beats words is range few keeps =
    let load = keeps.open_fits (only_inside before.place words form.Beats refl is) in
    let parts = and_parts _ _ load.fits in
    let beats = and_parts _ _ parts.1 in
    record {
      some_block = keeps.some_block;
      few_blocks = keeps.few_blocks;
      few_polls = keeps.few_polls;
      few_commands = keeps.few_commands;
      each = keeps.each;
      open_fits = λ e. record {
        room = load.room;
        fits = and_from _ _ parts.0 (and_from _ _
            (le-leb _ 4194304 (ltb-false 4194304 _ few))
            (list_all-append (fits_beat limits) before.load.beats (beats_of words) ∙ and_from _ _ beats.1 range));
      };
    }

-- ---- from the checks

not_fails : (b : Bool) → (not b ≡ true → ⊥) → b ≡ true
not_fails true passes = refl
not_fails false passes = absurd (passes refl)

adds_keeps : (limits : Limits) (before : Before) (line : ℕ × List ℕ) (next : Before) → Adds limits before line next → Keeps limits before → Keeps limits next
adds_keeps limits before line next adds keeps =
    let words : List (List ℕ) = words_of line.1 in
    let range : in_range limits adds.form words ≡ true =
    not_fails _ (subst (λ (one : Option Form). fails_at limits before one words Range ≡ true → ⊥) adds.has_form adds.passes.1.1.1.0) in
    let few : is_too_many limits before adds.form words ≡ false =
    false_from_ne_true _ (subst (λ (one : Option Form). fails_at limits before one words TooMany ≡ true → ⊥) adds.has_form adds.passes.1.1.1.1.0) in
    subst (Keeps limits) (sym adds.next_is) (after_keeps limits before line.0 adds.form words adds.has_form range few keeps)

turn_keeps : (limits : Limits) (before : Before) (lines : List (ℕ × List ℕ)) (last : Before) → Keeps limits before → InTurn limits before lines last → Keeps limits last
turn_keeps limits before [] last keeps sound = subst (Keeps limits) sound keeps
turn_keeps limits before (line ∷ lines) last keeps sound =
    turn_keeps limits sound.0 lines last (adds_keeps limits before line sound.0 sound.1 keeps) sound.2

opening_keeps : (limits : Limits) → Keeps limits opening
opening_keeps limits = record {
  some_block = omega arith;
  few_blocks = omega arith;
  few_polls = omega arith;
  few_commands = omega arith;
  each = refl;
  open_fits = λ e. absurd cc;
}

pub within : (limits : Limits) (text : List ℕ) (script : Stated) → States limits text script → IsWithin limits script
within limits text script states =
    let keeps = turn_keeps limits opening (counted_lines text) states.last (opening_keeps limits) states.sound in
    subst (IsWithin limits) (sym states.script_is) (
    record {
      some_block = keeps.some_block;
      few_blocks = keeps.few_blocks;
      few_polls = keeps.few_polls;
      few_commands = keeps.few_commands;
      each = keeps.each;
    }
    )
