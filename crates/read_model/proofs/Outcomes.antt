-- What reads come to.
use Rattle.std.proofs.Common.{◌≡◌, ◌⊎◌, inl, inr, ℕ, zero, suc, List, [], ◌∷◌, ◌++◌, length, map, None, refl, sym, ◌∙◌, ap, subst, arith, length-append}
use Rattle.std.proofs.Math.Seq.{get_or-append_seam}
use Rattle.std.proofs.lemmas.List.Elements.{All-nil, All-append}
use Rattle.std.proofs.lemmas.Option.{none-some}
use Rattle.entry_model.specs.Reading.{Reading}
use Rattle.read_model.specs.Accepts.{Accepts, Refuses, AreAccepted}
use Rattle.read_model.specs.Reads.{Read, names_of, files_of, AreHeld, Outcome, AllRead, NotRead, Refused, Reads, count_of, IsReadable}
use Rattle.read_model.proofs.Accepted.{accepted_or_refused, never_both, one_list}

module _ (holds : List ℕ → List ℕ) where
  pub held_nil : AreHeld holds []
  held_nil = All-nil (λ (read : Read). read.bytes ≡ holds read.name)

  pub held_one : (read : Read) → read.bytes ≡ holds read.name → AreHeld holds (read ∷ [])
  held_one read is zero d below = is
  held_one read is (suc k) d below = absurd (omega (arith, below))

  pub held_cons : (read : Read) (reads : List Read) → read.bytes ≡ holds read.name → AreHeld holds reads → AreHeld holds (read ∷ reads)
  held_cons read reads is held zero d below = is
  held_cons read reads is held (suc k) d below = held k d (omega (arith, below))

  pub held_append : (reads more : List Read) → AreHeld holds reads → AreHeld holds more → AreHeld holds (reads ++ more)
  held_append reads more = All-append (λ (read : Read). read.bytes ≡ holds read.name) reads more

  pub held_head : (read : Read) (reads : List Read) → AreHeld holds (read ∷ reads) → read.bytes ≡ holds read.name
  held_head read reads held = held 0 read (omega arith)

  pub held_tail : (read : Read) (reads : List Read) → AreHeld holds (read ∷ reads) → AreHeld holds reads
  held_tail read reads held = λ k d below. held (suc k) d (omega (arith, below))

  pub held_last : (reads : List Read) (read : Read) → AreHeld holds (reads ++ read ∷ []) → read.bytes ≡ holds read.name
  held_last reads read held =
      subst (λ (r : Read). r.bytes ≡ holds r.name) (get_or-append_seam reads read [] read) (held (length reads) read (omega (arith, length-append reads (read ∷ []))))

  -- what such reads gave is what their names hold
  pub files_held : (reads : List Read) → AreHeld holds reads → files_of reads ≡ map holds (names_of reads)
  files_held [] held = refl
  files_held (read ∷ reads) held =
      let here : read.bytes ≡ holds read.name = held_head read reads held in
      let behind : files_of reads ≡ map holds (names_of reads) = files_held reads (held_tail read reads held) in
      λ i. here i ∷ behind i

-- a file more in front of reads that come to an outcome
in_front : Reading → Outcome → Outcome
in_front r (AllRead readings) = AllRead (r ∷ readings)
in_front r (NotRead name) = NotRead name
in_front r (Refused name offset cause) = Refused name offset cause

reads_in_front : (read : Read) (r : Reading) (names : List (List ℕ)) (reads : List Read) (outcome : Outcome) → Accepts read.bytes r → Reads names reads outcome → Reads (read.name ∷ names) (read ∷ reads) (in_front r outcome)
unfolding in_front
reads_in_front read r names reads (AllRead readings) accepts come = (ap (λ (l : List (List ℕ)). read.name ∷ l) come.0, (accepts, come.1))
reads_in_front read r names reads (NotRead name) accepts come = record {
  rest = come.rest;
  in_order = ap (λ (l : List (List ℕ)). read.name ∷ l) come.in_order;
  readings = r ∷ come.readings;
  accepted = (accepts, come.accepted);
}
reads_in_front read r names reads (Refused name offset cause) accepts come = record {
  before = read ∷ come.before;
  bytes = come.bytes;
  last = ap (λ (l : List Read). read ∷ l) come.last;
  comes = record {
    rest = come.comes.rest;
    in_order = ap (λ (l : List (List ℕ)). read.name ∷ l) come.comes.in_order;
    readings = r ∷ come.comes.readings;
    accepted = (accepts, come.comes.accepted);
  };
  refuses = come.refuses;
}

none_fails : (read : Read) (r : Reading) (reads : List Read) (outcome : Outcome) → count_of outcome reads ≡ None → count_of (in_front r outcome) (read ∷ reads) ≡ None
unfolding in_front
none_fails read r reads (AllRead readings) none = refl
none_fails read r reads (NotRead name) none = absurd (none-some (length reads) (sym none))
none_fails read r reads (Refused name offset cause) none = refl

pub some_outcome : (names : List (List ℕ)) (holds : List ℕ → List ℕ) → IsReadable names holds
some_outcome [] holds = record { outcome = AllRead []; reads = []; held = held_nil holds; come = (refl, tt); all_read = refl }
some_outcome (name ∷ names) holds = elim (accepted_or_refused (holds name)) [
  | inr refused ↦
      record {
        outcome = Refused name refused.0 refused.1;
        reads = record { name = name; bytes = holds name } ∷ [];
        held = held_one holds (record { name = name; bytes = holds name }) refl;
        come = record {
          before = [];
          bytes = holds name;
          last = refl;
          comes = record { rest = names; in_order = refl; readings = []; accepted = tt };
          refuses = refused.2;
        };
        all_read = refl;
      }
  | inl here ↦
      let behind = some_outcome names holds in
      let read : Read = record { name = name; bytes = holds name } in
      record {
        outcome = in_front here.0 behind.outcome;
        reads = read ∷ behind.reads;
        held = held_cons holds read behind.reads refl behind.held;
        come = reads_in_front read here.0 names behind.reads behind.outcome here.1 behind.come;
        all_read = none_fails read here.0 behind.reads behind.outcome behind.all_read;
      }
]

-- of accepted files the one that is come to is accepted
accepted_at : (reads : List Read) (name : List ℕ) (rest : List (List ℕ)) (holds : List ℕ → List ℕ) (rs : List Reading) → AreAccepted (map holds (names_of reads ++ name ∷ rest)) rs → (r : Reading) × Accepts (holds name) r
accepted_at [] name rest holds [] all = absurd all
accepted_at [] name rest holds (r ∷ rs) all = (r, all.0)
accepted_at (read ∷ reads) name rest holds [] all = absurd all
accepted_at (read ∷ reads) name rest holds (r ∷ rs) all = accepted_at reads name rest holds rs all.1

pub all_or_not_read : (names : List (List ℕ)) (holds : List ℕ → List ℕ) (readings : List Reading) (reads : List Read) (outcome : Outcome) → AreAccepted (map holds names) readings → AreHeld holds reads → Reads names reads outcome
    → (outcome ≡ AllRead readings) ⊎ ((name : List ℕ) × (outcome ≡ NotRead name))
all_or_not_read names holds readings reads (AllRead others) all held come =
    let same : files_of reads ≡ map holds names = files_held holds reads held ∙ ap (map holds) come.0 in
    inl (ap AllRead (one_list (map holds names) others readings (subst (λ (files : List (List ℕ)). AreAccepted files others) same come.1) all))
all_or_not_read names holds readings reads (NotRead name) all held come = inr (name, refl)
all_or_not_read names holds readings reads (Refused name offset cause) all held come =
    let accepts = accepted_at come.before name come.comes.rest holds readings (subst (λ (ns : List (List ℕ)). AreAccepted (map holds ns) readings) come.comes.in_order all) in
    let read : Read = record { name = name; bytes = come.bytes } in
    let is : come.bytes ≡ holds name = held_last holds come.before read (subst (λ (l : List Read). AreHeld holds l) come.last held) in
    absurd (never_both (holds name) accepts.0 offset cause accepts.1 (subst (λ (bytes : List ℕ). Refuses bytes offset cause) is come.refuses))
