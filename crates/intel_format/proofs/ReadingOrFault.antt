-- Bytes have a reading or a fault.
use Rattle.std.proofs.Common.{◌≡◌, ◌≢◌, ◌⊎◌, inl, inr, ℕ, zero, suc, ◌+◌, ◌<◌, ◌≤◌, List, [], ◌∷◌, ◌++◌, length, map, take, drop, sym, ◌∙◌, ap, subst, refl, arith, append_assoc, length-append, take-append-drop}
use Rattle.std.specs.List.{range_with_len}
use Rattle.std.proofs.lemmas.Bool.{cases_lt, cases_eq}
use Rattle.fault_rule.specs.Checks.{AllPass}
use Rattle.fault_rule.proofs.Numbered.{each_passes}
use Rattle.fault_rule.proofs.Search.{pass_in_front, pass_behind}
use Rattle.uc_bytes.specs.declared.causes.FileCause.{FileCause}
use Rattle.uc_bytes.specs.declared.causes.FileCause.TheVariants.{EntrySum, Sum}
use Rattle.intel_format.specs.declared.header.IntelHeader.{IntelHeader}
use Rattle.intel_format.specs.Header.{header_of, total_len, header_triple}
use Rattle.intel_format.specs.Update.{IsTable, IsExtTable, IsSoundHeader, entry_count, entry_sum, pair_at}
use Rattle.intel_format.specs.Checks.{Fails, IsFirstFault, header_checks, table_checks, body_checks, update_checks, table_of}
use Rattle.intel_format.specs.File.{FileUpdate, AreUpdates, joined, IntelFile, IsFault}
use Rattle.intel_format.proofs.Begins.{update_at_front}
use Rattle.intel_format.proofs.OneReading.{update_long}
use Rattle.intel_format.proofs.OneFault.{Front, longest, fails_first}
use Rattle.intel_format.proofs.Checked.{checked, search_entries}

-- what is not unequal is equal
same_or : {a b : ℕ} → (a ≢ b → ⊥) → a ≡ b
same_or {a} {b} not_other = elim (cases_eq a b) [ inl same ↦ same | inr other ↦ absurd (not_other other) ]

-- what is not less is at least as much
pub at_least : {a b : ℕ} → (a < b → ⊥) → b ≤ a
at_least {a} {b} not_less = elim (cases_lt a b) [ inl less ↦ absurd (not_less less) | inr more ↦ more ]

-- a list of length 0 is empty
empty_list : (l : List ℕ) → length l ≡ 0 → l ≡ []
empty_list [] is = refl
empty_list (x ∷ l) is = absurd (omega arith)

module _ (before : ℕ) (bytes : List ℕ) where
  abbrev h : IntelHeader
  h = header_of bytes

  abbrev table : List ℕ
  table = table_of bytes

  abbrev pairs : List (ℕ × ℕ)
  pairs = map (pair_at table) (range_with_len 0 (entry_count table))

  -- a header is sound where its checks pass
  pub sound_header : AllPass (Fails before bytes) header_checks → IsSoundHeader h
  sound_header (long, (sizes, (total, (past, (version, all))))) = record {
    data_in_words = same_or (λ odd. sizes (inl odd));
    total_in_words = same_or (λ odd. sizes (inr odd));
    header_fits = at_least total;
    data_fits = at_least past;
    version = same_or (λ other. version (inl other));
    loader = same_or (λ other. version (inr other));
  }

  -- so is a table that is there
  sound_table : AllPass (Fails before bytes) (table_checks table) → 0 < length table → IsExtTable (header_triple h) table pairs
  sound_table (cut, (count, (sum, entries))) some = record {
    whole = same_or (λ other. count (some, other));
    sum = same_or (λ other. sum (some, other));
    sums = elim (search_entries (entry_sum table) (header_triple h) (entry_count table)) [
      | inl all ↦ all
      | inr bad ↦
          absurd (each_passes (Fails before bytes) EntrySum 0 (entry_count table) entries bad.0 (omega arith) (omega (arith, bad.1)) (some, (bad.1, bad.2, bad.3)))
    ];
    entries = refl;
  }

  -- what stands behind the data is a sound table, or nothing
  is_table : AllPass (Fails before bytes) (table_checks table) → (p : List (ℕ × ℕ)) × IsTable (header_triple h) table p
  is_table passed = elim (cases_eq (length table) 0) [
    | inl none ↦ ([], inl (empty_list table none, refl))
    | inr some ↦ (pairs, inr (sound_table passed (omega arith)))
  ]

-- where all checks pass, the update that begins there
module _ (before : ℕ) (bytes : List ℕ) (passed : AllPass (Fails before bytes) (update_checks bytes)) where
  abbrev FailsHere : FileCause → Type 0
  FailsHere = Fails before bytes

  pub few : before < 65536
  few = elim (cases_lt before 65536) [ inl less ↦ less | inr many ↦ absurd (passed.0 many) ]

  sound : IsSoundHeader (header_of bytes)
  sound = sound_header before bytes (pass_in_front FailsHere (body_checks bytes) header_checks passed.1)

  -- the checks behind those of the header, and behind those of the table
  behind_header : AllPass FailsHere (body_checks bytes)
  behind_header = pass_behind FailsHere (body_checks bytes) header_checks passed.1

  behind_table : AllPass FailsHere (Sum ∷ [])
  behind_table = pass_behind FailsHere (Sum ∷ []) (table_checks (table_of bytes)) behind_header.1

  -- its table, where it has one
  with_table : (p : List (ℕ × ℕ)) × IsTable (header_triple (header_of bytes)) (table_of bytes) p
  with_table = is_table before bytes (pass_in_front FailsHere (Sum ∷ []) (table_checks (table_of bytes)) behind_header.1)

  pub begins : Front bytes
  begins = record {
    update = record { bytes = take (total_len (header_of bytes)) bytes; header = header_of bytes; pairs = with_table.0 };
    rest = drop (total_len (header_of bytes)) bytes;
    is = update_at_front bytes with_table.0 sound (at_least behind_header.0) (same_or behind_table.0) with_table.1;
    split = sym (take-append-drop (total_len (header_of bytes)) bytes);
  }

-- bytes with some left: an update begins, or there is a first check that fails
front_or_fault : (before : ℕ) (bytes : List ℕ) → (Front bytes × (before < 65536)) ⊎ ((cause : FileCause) × IsFirstFault before bytes cause)
front_or_fault before bytes = elim (checked before bytes) [
  | inl fault ↦ inr fault
  | inr passed ↦ inl (begins before bytes passed, few before bytes passed)
]

-- updates, and then a first check that fails
record Cut (before : ℕ) (bytes : List ℕ) : Type 0 where
  updates : List FileUpdate
  rest : List ℕ
  cause : FileCause
  split : bytes ≡ joined updates ++ rest
  each : AreUpdates updates
  not_many : before + length updates ≤ 65536
  left : 0 < length rest
  first : IsFirstFault (before + length updates) rest cause

-- updates alone
record Updates (before : ℕ) (bytes : List ℕ) : Type 0 where
  updates : List FileUpdate
  split : bytes ≡ joined updates
  each : AreUpdates updates
  not_many : before + length updates ≤ 65536

walk : (fuel before : ℕ) (bytes : List ℕ) → length bytes ≤ fuel → before ≤ 65536 → Updates before bytes ⊎ Cut before bytes
walk fuel before [] short within = inl (record { updates = []; split = refl; each = tt; not_many = omega arith })
walk zero before (b ∷ bytes) short within = absurd (omega arith)
walk (suc fuel) before (b ∷ bytes) short within = elim (front_or_fault before (b ∷ bytes)) [
  | inr fault ↦
      inr
      (record {
        updates = [];
        rest = b ∷ bytes;
        cause = fault.0;
        split = refl;
        each = tt;
        not_many = omega arith;
        left = omega arith;
        first = subst (λ (n : ℕ). IsFirstFault n (b ∷ bytes) fault.0) (omega arith) fault.1;
      })
  | inl at ↦
      let front = at.0 in
      let u = front.update in
      let shorter : length front.rest ≤ fuel = omega (arith, ap length front.split, length-append u.bytes front.rest, update_long _ _ _ front.is) in
      elim (walk fuel (before + 1) front.rest shorter (omega (arith, at.1))) [
        | inl updates ↦
            inl
            (record {
              updates = u ∷ updates.updates;
              split = front.split ∙ ap (λ (l : List ℕ). u.bytes ++ l) updates.split;
              each = (front.is, updates.each);
              not_many = omega (arith, updates.not_many);
            })
        | inr cut ↦
            inr
            (record {
              updates = u ∷ cut.updates;
              rest = cut.rest;
              cause = cut.cause;
              split = front.split ∙ ap (λ (l : List ℕ). u.bytes ++ l) cut.split ∙ sym (append_assoc u.bytes (joined cut.updates) cut.rest);
              each = (front.is, cut.each);
              not_many = omega (arith, cut.not_many);
              left = cut.left;
              first = subst (λ (n : ℕ). IsFirstFault n cut.rest cut.cause) (omega arith) cut.first;
            })
      ]
]

-- the longest front that is a file ends where a check fails
pub fault_of : (bytes : List ℕ) (us : List FileUpdate) (rest : List ℕ) (cause : FileCause) → bytes ≡ joined us ++ rest → AreUpdates us → length us ≤ 65536 → 0 < length rest → IsFirstFault (length us) rest cause
    → IsFault bytes (length (joined us)) cause
fault_of bytes us rest cause split each not_many left first = record {
  updates = us;
  rest = rest;
  split = split;
  file = record { whole = refl; each = each; few = not_many };
  place = refl;
  left = left;
  longest = λ n others past within file.
      longest us rest cause n others each (fails_first (length us) rest cause first) past (omega (arith, ap length split)) (subst (λ (l : List ℕ). IntelFile (take n l) others) split file);
  first = first;
}

pub reading_or_fault : (bytes : List ℕ) → ((us : List FileUpdate) × IntelFile bytes us) ⊎ ((offset : ℕ) × (cause : FileCause) × IsFault bytes offset cause)
reading_or_fault bytes = elim (walk (length bytes) 0 bytes (omega arith) (omega arith)) [
  | inl updates ↦ inl (updates.updates, record { whole = updates.split; each = updates.each; few = omega (arith, updates.not_many) })
  | inr cut ↦
      inr (
        length (joined cut.updates),
        cut.cause,
        fault_of bytes cut.updates cut.rest cut.cause cut.split cut.each (omega (arith, cut.not_many)) cut.left
            (subst (λ (n : ℕ). IsFirstFault n cut.rest cut.cause) (omega arith) cut.first),
      )
]
