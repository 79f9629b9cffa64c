-- Lines of one event each.
use Rattle.std.proofs.Common.{◌≡◌, ℕ, ◌+◌, ◌-◌, ◌<◌, ◌≤◌, ◌∙◌, true, List, [], ◌∷◌, ◌++◌, length, filter, refl, sym, ap, subst, arith}
use Rattle.std.specs.List.{enumerate_from, position_or_len}
use Rattle.std.proofs.lemmas.List.{length-drop}
use Rattle.rendezvous_steps.specs.declared.ends.Beat.{Beat}
use Rattle.script_text.specs.declared.forms.Limits.{Limits}
use Rattle.script_text.specs.declared.forms.Place.TheVariants.{InLoad}
use Rattle.script_text.specs.Reading.{read_on}
use Rattle.uc_text.specs.Lines.{counts, is_line_feed, lines_of, words_of}
use Rattle.uc_script.specs.FirstLine.{first_line}
use Rattle.uc_script.specs.EventLines.{ReadsOn}
use Rattle.uc_script.specs.Schedules.{Counted, IsFirstEvent}
use Rattle.uc_script.proofs.FirstLines.{counted-parts}
use Rattle.uc_script.proofs.Lines.{beats_go_on}
use Rattle.uc_script.proofs.Scheduled.{counted-push, leaves_less, leaves_none}
use Rattle.uc_script.proofs.ShortWords.{line_of_beats}

-- where nothing was taken
pub reads_here : (limits : Limits) (lines now : List (ℕ × List ℕ)) (beats : List Beat) → now ≡ lines → ReadsOn limits (filter counts lines) beats (filter counts now) beats
reads_here limits lines now beats is = record {
  same = λ before load. ap (λ (ls : List (ℕ × List ℕ)). read_on limits (record before { place = InLoad; load = record load { beats = beats } }) (filter counts ls)) is;
  fewer = omega (arith, ap (λ (ls : List (ℕ × List ℕ)). length (filter counts ls)) is);
}

module _ (limits : Limits) (beats : List Beat) (events : ℕ) (event : Beat) (pushed : List Beat) (counted : Counted limits beats events) (few : events < 4194304) (is_pushed : pushed ≡ beats ++ event ∷ []) where
  module _ (text rest : List ℕ) (found : IsFirstEvent limits text event rest true) where
    pub counted_one : Counted limits pushed (events + 1)
    counted_one = subst (λ (bs : List Beat). Counted limits bs (events + 1)) (sym is_pushed) (counted-push limits beats event events 1 (events + 1) counted (sym found.1) (omega (arith, few)))

    pub shorter : length rest + 1 ≤ length text
    shorter =
        let some : 0 < length text = (line_of_beats limits text event rest true found.0).some in
        let left : length rest ≡ length text - (position_or_len is_line_feed text + 1) = sym (ap length found.0.after) ∙ length-drop (position_or_len is_line_feed text + 1) text in
        omega (arith, some, left)

    -- one more line is taken
    pub reads_line : (lines : List (ℕ × List ℕ)) (old : List Beat) (number : ℕ) → ReadsOn limits lines old (filter counts (enumerate_from number (lines_of text))) beats
        → ReadsOn limits lines old (filter counts (enumerate_from (number + 1) (lines_of rest))) pushed
    reads_line lines old number so_far =
        let words : List (List ℕ) = words_of (first_line text) in
        let line = line_of_beats limits text event rest true found.0 in
        let left = leaves_less limits words beats words beats (found.0.mark ∷ found.0.digits) [] event pushed (refl, refl) found.0.words found.0.read is_pushed in
        let scheduled = leaves_none {A = Unit {0}} tt limits words beats pushed (events + 1) left counted_one (omega (arith, few)) in
        let split = counted-parts number text rest line (sym found.0.after) in record {
          same = λ before load. beats_go_on limits before (record load { beats = beats }) (number, first_line text) (filter counts (enumerate_from (number + 1) (lines_of rest))) (record load { beats = old })
              (filter counts (enumerate_from number (lines_of text))) lines (so_far.same before load) split pushed line.no_end scheduled.0 scheduled.1;
          fewer = omega (arith, so_far.fewer, ap length split);
        }
