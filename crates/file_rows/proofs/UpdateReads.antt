-- How the rows of an Intel file go on.
use Rattle.std.proofs.Common.{◌≡◌, ℕ, ◌+◌, ◌-◌, List, [], ◌∷◌, ◌++◌, length, Option, Result, Ok, Err, sym, ◌∙◌, ap, subst, arith, length-append}
use Rattle.std.specs.Prelude.{OnOk, IfOk}
use Rattle.std.proofs.lemmas.List.{append-nil}
use Rattle.uc_bytes.specs.declared.causes.FileFault.{FileFault}
use Rattle.uc_bytes.specs.declared.causes.FileAnswer.{FileAnswer}
use Rattle.intel_format.specs.declared.header.IntelHeader.{IntelHeader}
use Rattle.intel_format.specs.File.{FileUpdate, IntelFile, joined}
use Rattle.intel_file.specs.declared.walk.IntelWalk.{IntelWalk}
use Rattle.intel_file.specs.declared.walk.Ended.{Ended}
use Rattle.intel_file.specs.declared.walk.What.{What}
use Rattle.intel_file.specs.declared.walk.What.TheVariants.{More, Update, Fault}
use Rattle.intel_file.specs.declared.progress.Stage.{Stage}
use Rattle.intel_file.specs.declared.progress.Stage.TheVariants.{Header, Data, TableHead, Entries, Over}
use Rattle.intel_file.specs.declared.progress.Progress.{Progress}
use Rattle.intel_file.specs.Progress.{IsAtStage}
use Rattle.intel_file.specs.Walk.{Stands, IsTaken, header_in}
use Rattle.file_rows.specs.declared.updates.UpdateRow.{UpdateRow}
use Rattle.file_rows.specs.declared.updates.UpdateRows.{UpdateRows}
use Rattle.file_rows.specs.UpdateRows.{row_of, row_of_ended, rows_of_updates, pairs_of_updates}
use Rattle.file_rows.specs.UpdateWalk.{rows_with, fault_in, IsKept, IsWalked}
use Rattle.file_rows.proofs.IntelRows.{rows_push, pairs_push}

-- what was taken is kept
pub listed_by : (what : What) (h : IntelHeader) (walk : IntelWalk) (bytes : List ℕ) (us : List FileUpdate) (pairs : List (ℕ × ℕ)) (new : UpdateRows) → header_in walk ≡ h → IsTaken bytes us pairs walk what
    → new.rows.items ≡ rows_of_updates 0 0 us ++ rows_with h (length new.pairs.items) what → new.pairs.items ≡ pairs_of_updates us ++ pairs → IsKept bytes walk new (fault_in what)
listed_by More h walk bytes us pairs new header taken rows all = record {
  updates = us;
  coming = pairs;
  stands = taken;
  has = record { kept_rows = rows ∙ append-nil (rows_of_updates 0 0 us); kept_pairs = all };
}
listed_by (Fault fault) h walk bytes us pairs new header taken rows all = taken
listed_by (Update ended) h walk bytes us pairs new header taken rows all =
    let own = taken.0 in
    let u : FileUpdate = record { bytes = own; header = header_in walk; pairs = pairs } in
    let count : ended.pairs ≡ length pairs = ap (λ (e : Ended). e.pairs) taken.2 in
    let start : ended.start ≡ 0 + length (joined us) = omega (arith, ap (λ (e : Ended). e.start) taken.2) in
    let len : ended.len ≡ length own = ap (λ (e : Ended). e.len) taken.2 in
    let at : length new.pairs.items - ended.pairs ≡ 0 + length (pairs_of_updates us) = omega (arith, count, ap (λ (l : List (ℕ × ℕ)). length l) all, length-append (pairs_of_updates us) pairs) in
    let same : row_of_ended h ended (length new.pairs.items - ended.pairs) ≡ row_of (0 + length (joined us)) (0 + length (pairs_of_updates us)) u =
    λ i. record { start = start i; len = len i; rev = (sym header i).rev; date = (sym header i).date; min = (sym header i).min; sig = (sym header i).sig; flags = (sym header i).flags; pairs_at = at i; pairs = count i } in
    record {
      updates = us ++ u ∷ [];
      coming = [];
      stands = taken.1;
      has = record {
        kept_rows = rows ∙ ap (λ (r : UpdateRow). rows_of_updates 0 0 us ++ r ∷ []) same ∙ sym (rows_push 0 0 us u);
        kept_pairs = all ∙ sym (pairs_push us u) ∙ sym (append-nil (pairs_of_updates (us ++ u ∷ [])));
      };
    }

-- no pairs are coming where nothing of an update came
none_at : (stage : Stage) (p : Progress) (done : List ℕ) (pairs : List (ℕ × ℕ)) → IsAtStage stage p done pairs → length done ≡ 0 → pairs ≡ []
none_at Header p done pairs at none = at.1
none_at Data p done pairs at none = at.1
none_at TableHead p done pairs at none = at.1
none_at Entries p done pairs at none = absurd (omega (arith, at.0.after.has.long, ap (λ (l : List ℕ). length l) at.0.split, length-append at.0.done at.0.table, none))
none_at (Over cause) p done pairs at none = at.1

pub none_coming : (walk : IntelWalk) (bytes : List ℕ) (us : List FileUpdate) (pairs : List (ℕ × ℕ)) → Stands walk bytes us pairs → IntelFile bytes us → pairs ≡ []
none_coming walk bytes us pairs stands is =
    none_at walk.progress.stage walk.progress stands.done pairs stands.at
    (omega (arith, ap (λ (l : List ℕ). length l) stands.split, ap (λ (l : List ℕ). length l) is.whole, length-append (joined us) (stands.done ++ walk.held.items), length-append stands.done walk.held.items))

-- so what is added by a call is
pub walked_by : (result : Result (Option FileFault) FileAnswer) (what : What) (h : IntelHeader) (walk : IntelWalk) (bytes : List ℕ) (us : List FileUpdate) (pairs : List (ℕ × ℕ)) (old : List UpdateRow) (count : ℕ) (new : UpdateRows) → header_in walk ≡ h → IsTaken bytes us pairs walk what
    → old ≡ rows_of_updates 0 0 us → count ≡ length new.pairs.items → OnOk result (new.rows.items ≡ old ++ rows_with h count what) → IfOk result (λ fault. fault ≡ fault_in what) → new.pairs.items ≡ pairs_of_updates us ++ pairs → IsWalked bytes walk new result
walked_by (Ok fault) what h walk bytes us pairs old count new header taken was counted rows same all =
    subst (λ (f : Option FileFault). IsKept bytes walk new f) (sym same)
    (listed_by what h walk bytes us pairs new header taken (rows ∙ ap (λ (l : List UpdateRow). l ++ rows_with h count what) was ∙ ap (λ (n : ℕ). rows_of_updates 0 0 us ++ rows_with h n what) counted) all)
walked_by (Err answer) what h walk bytes us pairs old count new header taken was counted rows same all = tt
