-- What a generated session wrote, and why it ended.
use Rattle.std.proofs.Common.{◌≡◌, ℕ, ◌-◌, ◌^◌, List, [], ◌∷◌, Option, None, refl, ◌∙◌, ap, subst}
use Rattle.std.specs.Prelude.{codes, decimal, min, count_by}
use Rattle.uc_text.specs.Lines.{is_line_feed}
use Rattle.uc_gen.specs.declared.tally.TallySink.{TallySink}
use Rattle.uc_gen.specs.Tally.{last_of, Tallies}
use Rattle.tool_text.specs.read_model.Reads.{Read}
use Rattle.tool_text.proofs.read_model.Outcomes.{held_nil}
use Rattle.tool_text.specs.report_text.Lines.{joined}
use Rattle.status_rule.specs.declared.status.Status.{Status}
use Rattle.status_rule.specs.declared.status.Status.TheVariants as statuses
use Rattle.status_rule.specs.Causes.{ReadCause}
use Rattle.status_rule.specs.Written.{GoesWith, HasText, WroteText, StartsText, Written}
use Rattle.tool_text.specs.Plays.{GenText, summary_line}
use Rattle.tool_text.specs.Tool.{FromReads}
use Rattle.uc_cli.specs.Generating.{summary_of}

-- the line on what was counted is that on what was written
pub summary_is : (number : ℕ) (tally : TallySink) (whole : List ℕ) → Tallies tally whole → summary_of number tally ≡ summary_line number whole
summary_is number tally whole tallies =
    let line : ℕ → List ℕ → List ℕ = λ lines last. joined (codes "gen " ∷ decimal number ∷ codes " lines " ∷ decimal lines ∷ codes " last " ∷ last ∷ codes "\n" ∷ []) in
    ap (λ (lines : ℕ). line lines (last_of tally)) tallies.lines ∙ ap (line (min (count_by is_line_feed whole) (2 ^ 64 - 1))) tallies.last

module _ (number : ℕ) where
  abbrev Texts : Option ℕ → List ℕ → Status → Type 0
  Texts = GenText number []

  -- no file of the outside is read
  pub has_text : (holds : List ℕ → List ℕ) → HasText (FromReads (Unit {0}) holds (GenText number)) → HasText Texts
  has_text holds has = record {
    text = has.text;
    status = has.status;
    is_text = subst (λ (reads : List Read). GenText number reads None has.text has.status) has.is_text.is_text.no_reads has.is_text.is_text;
    goes = has.goes;
  }

  module _ {D : Type 0} (stands : D → List ℕ → Type 0) (old new : D) (tells : Type 0) (holds : List ℕ → List ℕ) (rose : Type 0) where
    abbrev Outer : Option ℕ → List ℕ → Status → Type 0
    Outer = FromReads tells holds (GenText number)

    of_none : (files : Option ℕ) (text : List ℕ) (status : Status) → Texts files text status → Outer files text status
    of_none files text status is = record { reads = []; held = λ tell. held_nil holds; is_text = is }

    wrote : (status : Status) → WroteText Texts stands old new status → WroteText Outer stands old new status
    wrote status is = record {
      files = is.files;
      text = is.text;
      is_text = of_none is.files is.text status is.is_text;
      goes = is.goes;
      grew = is.grew;
    }

    starts : (front : List ℕ) → StartsText Texts ⊥ front → StartsText Outer rose front
    starts front is = record {
      files = is.files;
      text = is.text;
      status = is.status;
      is_text = of_none is.files is.text is.status is.is_text;
      goes = is.goes;
      by_fault = λ some. absurd (is.by_fault some);
      is_front = is.is_front;
    }

    pub generated_written : (status : Status) → Written Texts ⊥ stands old new status → Written Outer rose stands old new status
    generated_written statuses.Done is = wrote statuses.Done is
    generated_written (statuses.Usage k) is = wrote (statuses.Usage k) is
    generated_written statuses.BadInput is = wrote statuses.BadInput is
    generated_written statuses.Short is = wrote statuses.Short is
    generated_written statuses.ReadFault is = wrote statuses.ReadFault is
    generated_written statuses.WriteFault is = record { front = is.front; line = is.line; starts = starts is.front is.starts; of_line = is.of_line; grew = is.grew }
    generated_written (statuses.Panicked t) is = wrote (statuses.Panicked t) is
    generated_written statuses.NoMemory is = record { front = is.front; starts = starts is.front is.starts; grew = is.grew }

  -- nor does one fail to be read
  pub never_unread : {D : Type 0} (stands : D → List ℕ → Type 0) (old new : D) (count : ℕ) (status : Status) → Written Texts ⊥ stands old new status → ReadCause count count status
  never_unread stands old new count statuses.Done is = refl
  never_unread stands old new count (statuses.Usage k) is = refl
  never_unread stands old new count statuses.BadInput is = refl
  never_unread stands old new count statuses.Short is = refl
  never_unread stands old new count statuses.ReadFault is =
      absurd (subst (λ (files : Option ℕ). GoesWith files statuses.ReadFault) is.is_text.none_fails is.goes)
  never_unread stands old new count statuses.WriteFault is = tt
  never_unread stands old new count (statuses.Panicked t) is = refl
  never_unread stands old new count statuses.NoMemory is = tt
