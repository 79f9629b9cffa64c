-- What stands of bytes that came, and fault that is settled, never go together.
use Rattle.std.proofs.Common.{◌≡◌, ◌≢◌, ◌⊎◌, inl, inr, ℕ, ◌<◌, List, [], ◌++◌, length, Err, refl, ◌∙◌, ap, subst, arith, length-append}
use Rattle.std.proofs.lemmas.Bool.{cases_eq}
use Rattle.uc_bytes.specs.declared.causes.FileCause.{FileCause}
use Rattle.uc_bytes.specs.declared.causes.FileCause.TheVariants.{Short, Truncated}
use Rattle.uc_bytes.specs.declared.causes.FileAnswer.{FileAnswer}
use Rattle.uc_bytes.specs.declared.causes.FileAnswer.TheVariants.{Fault, NoMemory}
use Rattle.intel_format.specs.File.{FileUpdate, joined}
use Rattle.intel_format.specs.Settled.{IsSettled}
use Rattle.intel_file.specs.declared.progress.Stage.{Stage}
use Rattle.intel_file.specs.declared.progress.Stage.TheVariants.{Header, Data, TableHead, Entries, Over}
use Rattle.intel_file.specs.declared.walk.IntelWalk.{IntelWalk}
use Rattle.intel_file.specs.Progress.{IsAtStage}
use Rattle.intel_file.specs.Stage.{unit_of}
use Rattle.intel_file.specs.declared.stream.IntelStream.{IntelStream}
use Rattle.intel_file.specs.Reading.{IsFileRead}
use Rattle.intel_file.specs.Stream.{IsFed}
use Rattle.intel_file.specs.Walk.{Stands}
use Rattle.intel_file.proofs.Walks.{none_from_length, ended_whole, ended_short, ended_cut, behind_header, whole_not_settled, cut_not_settled}

is_header : (stage : Stage) → (stage ≡ Header) ⊎ (stage ≢ Header)
is_header Header = inl refl
is_header Data = inr (λ same. cc)
is_header TableHead = inr (λ same. cc)
is_header Entries = inr (λ same. cc)
is_header (Over cause) = inr (λ same. cc)

module _ (walk : IntelWalk) (bytes : List ℕ) (us : List FileUpdate) (pairs : List (ℕ × ℕ)) (stands : Stands walk bytes us pairs) where
  abbrev held : List ℕ
  held = walk.held.items

  in_header : walk.progress.stage ≡ Header → (offset : ℕ) (cause : FileCause) → IsSettled bytes offset cause → ⊥
  in_header same =
      let none = subst (λ (s : Stage). IsAtStage s walk.progress stands.done pairs) same stands.at in
      let short : length held < 48 = subst (λ (s : Stage). length held < unit_of s) same walk.short in
      let long : length (stands.done ++ held) ≡ length held = omega (arith, ap length none.0, length-append stands.done held) in
      elim (cases_eq (length held) 0) [
        | inl empty ↦
            let nothing : stands.done ++ held ≡ [] = none_from_length (stands.done ++ held) (long ∙ empty) in
            whole_not_settled bytes us (ended_whole bytes us (stands.split ∙ ap (λ (l : List ℕ). joined us ++ l) nothing) stands.each stands.few)
        | inr other ↦
            let some : 0 < length (stands.done ++ held) = omega (arith, long, other) in
            cut_not_settled bytes walk.start Short (ended_short bytes (stands.done ++ held) us walk.start stands.split stands.each (stands.room some) stands.start some (omega (arith, long, short))) tt
      ]

  behind : walk.progress.stage ≢ Header → (offset : ℕ) (cause : FileCause) → IsSettled bytes offset cause → ⊥
  behind other =
      let come = behind_header walk.progress.stage walk.progress stands.done pairs other stands.at in
      let some : 0 < length (stands.done ++ held) = omega (arith, come.has.long, length-append stands.done held) in
      cut_not_settled bytes walk.start Truncated (ended_cut bytes stands.done held us walk.start walk.progress (unit_of walk.progress.stage) stands.split stands.each (stands.room some) stands.start come walk.short) tt

  pub none_settled : (offset : ℕ) (cause : FileCause) → IsSettled bytes offset cause → ⊥
  none_settled = elim (is_header walk.progress.stage) [ inl same ↦ in_header same | inr other ↦ behind other ]

-- what feeding a whole file refuses is what reading it does
pub fed_refused : (bytes : List ℕ) (stream : IntelStream) (answer : FileAnswer) → IsFed [] bytes stream (Err answer) → IsFileRead bytes (Err answer)
fed_refused bytes stream (Fault fault) fed = fed.1.0
fed_refused bytes stream NoMemory fed = tt
