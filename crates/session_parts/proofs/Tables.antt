-- Tables, as lists that grow place by place and as functions.
use Rattle.std.proofs.Common.{◌≡◌, ℕ, ◌+◌, ◌<◌, ◌≤◌, Bool, if◌then◌else◌, List, [], ◌∷◌, ◌++◌, length, map, sym, ap, ◌∙◌, inl, inr, subst, arith}
use Rattle.std.specs.Prelude.{slice_get, unwrap_or}
use Rattle.std.specs.List.{range_with_len}
use Rattle.std.proofs.Math.Path.{fun_ext}
use Rattle.std.proofs.lemmas.Bool.{cases_eq, cases_lt, eq-eqb, ne_eqb, lt-ltb, le-ltb}
use Rattle.std.proofs.lemmas.List.{get_or_past}
use Rattle.std.proofs.lemmas.List.FromFn.{length-map-range_with_len, get_or-map-range_with_len, map-range_with_len_more}
use Rattle.std.proofs.lemmas.Option.{unwrap_or-slice_get}
use Rattle.machine_steps.specs.Hardware.{put}
use Rattle.session_steps.specs.Offers.{table}
use Rattle.session_parts.specs.Loads.{mixed}

module _ {A : Type 0} where
  -- one place more
  pub map_more : (each : ℕ → A) (n : ℕ) (items new : List A) (x : A) → items ≡ map each (range_with_len 0 n) →
      new ≡ items ++ x ∷ [] → x ≡ each n → new ≡ map each (range_with_len 0 (n + 1))
  map_more each n items new x so_far pushed is =
      pushed ∙ ap (λ (l : List A). l ++ x ∷ []) so_far ∙ ap (λ (y : A). map each (range_with_len 0 n) ++ y ∷ []) is
      ∙ sym (map-range_with_len_more each 0 n n (omega arith))

  pub map_length : (each : ℕ → A) (n : ℕ) (items : List A) → items ≡ map each (range_with_len 0 n) → length items ≡ n
  map_length each n items so_far = ap length so_far ∙ length-map-range_with_len each 0 n

  pub table_in : (places : ℕ) (each : ℕ → A) (behind : A) (k : ℕ) → k < places → table places each behind k ≡ each k
  table_in places each behind k below = ap (λ (b : Bool). if b then each k else behind) (lt-ltb k places below)

  pub table_past : (places : ℕ) (each : ℕ → A) (behind : A) (k : ℕ) → places ≤ k → table places each behind k ≡ behind
  table_past places each behind k past = ap (λ (b : Bool). if b then each k else behind) (le-ltb k places past)

  place_is : (each : ℕ → A) (n : ℕ) (behind : A) (k : ℕ) →
      unwrap_or (slice_get (map each (range_with_len 0 n)) k) behind ≡ table n each behind k
  place_is each n behind k =
      unwrap_or-slice_get (map each (range_with_len 0 n)) k behind
      ∙ elim (cases_lt k n) [
        | inl below ↦ get_or-map-range_with_len each 0 n k k behind below (omega arith)
            ∙ sym (table_in n each behind k below)
        | inr past ↦
            get_or_past (map each (range_with_len 0 n)) k behind
            (omega (arith, past, length-map-range_with_len each 0 n))
            ∙ sym (table_past n each behind k past)
      ]

  -- a list of so many places, with a value behind them
  pub table_is : (each : ℕ → A) (n : ℕ) (behind : A) (items : List A) → items ≡ map each (range_with_len 0 n) →
      (λ (k : ℕ). unwrap_or (slice_get items k) behind) ≡ table n each behind
  table_is each n behind items so_far =
      let as_table : List A → ℕ → A = λ l k. unwrap_or (slice_get l k) behind in
      ap as_table so_far ∙ fun_ext (λ k. place_is each n behind k)

  -- a table of which some places are new

  pub mixed_in : (new old : ℕ → A) (places k : ℕ) → k < places → mixed new old places k ≡ new k
  mixed_in new old places k below = ap (λ (b : Bool). if b then new k else old k) (lt-ltb k places below)

  pub mixed_past : (new old : ℕ → A) (places k : ℕ) → places ≤ k → mixed new old places k ≡ old k
  mixed_past new old places k past = ap (λ (b : Bool). if b then new k else old k) (le-ltb k places past)

  pub none_mixed : (new old : ℕ → A) → old ≡ mixed new old 0
  none_mixed new old = fun_ext (λ k. sym (mixed_past new old 0 k (omega arith)))

  put_same : (f : ℕ → A) (place k : ℕ) (value : A) → k ≡ place → put f place value k ≡ value
  put_same f place k value same = ap (λ (b : Bool). if b then value else f k) (eq-eqb k place same)

  put_other : (f : ℕ → A) (place k : ℕ) (value : A) → (k ≡ place → ⊥) → put f place value k ≡ f k
  put_other f place k value other = ap (λ (b : Bool). if b then value else f k) (ne_eqb k place other)

  mixed_more_at : (new old : ℕ → A) (n k : ℕ) → put (mixed new old n) n (new n) k ≡ mixed new old (n + 1) k
  mixed_more_at new old n k = elim (cases_eq k n) [
    | inl same ↦ put_same (mixed new old n) n k (new n) same ∙ sym (ap new same)
        ∙ sym (mixed_in new old (n + 1) k (omega (arith, same)))
    | inr other ↦
        put_other (mixed new old n) n k (new n) other
        ∙ elim (cases_lt k n) [
          | inl below ↦ mixed_in new old n k below ∙ sym (mixed_in new old (n + 1) k (omega (arith, below)))
          | inr past ↦ mixed_past new old n k past ∙ sym (mixed_past new old (n + 1) k (omega (arith, past, other)))
        ]
  ]

  -- the next place is new too
  pub mixed_more : (new old : ℕ → A) (n : ℕ) → put (mixed new old n) n (new n) ≡ mixed new old (n + 1)
  mixed_more new old n = fun_ext (λ k. mixed_more_at new old n k)

  mixed_same_at : (new old : ℕ → A) (n k : ℕ) → new n ≡ old n → mixed new old n k ≡ mixed new old (n + 1) k
  mixed_same_at new old n k stays = elim (cases_eq k n) [
    | inl same ↦
        mixed_past new old n k (omega (arith, same)) ∙ subst (λ (j : ℕ). old j ≡ new j) (sym same) (sym stays)
        ∙ sym (mixed_in new old (n + 1) k (omega (arith, same)))
    | inr other ↦ elim (cases_lt k n) [
      | inl below ↦ mixed_in new old n k below ∙ sym (mixed_in new old (n + 1) k (omega (arith, below)))
      | inr past ↦ mixed_past new old n k past ∙ sym (mixed_past new old (n + 1) k (omega (arith, past, other)))
    ]
  ]

  -- the next place stays as it is
  pub mixed_same : (new old : ℕ → A) (n : ℕ) → new n ≡ old n → mixed new old n ≡ mixed new old (n + 1)
  mixed_same new old n stays = fun_ext (λ k. mixed_same_at new old n k stays)
