-- What the tables keep when a core is added.
use Rattle.std.proofs.Common.{◌≡◌, ℕ, zero, suc, ◌+◌, ◌<◌, ◌≤◌, ◌≢◌, Bool, true, false, ◌&&◌, nat_eq, nat_lt, List, [], ◌∷◌, ◌++◌, length, get_or, map, refl, sym, ap, ◌∙◌, subst, inl, inr, zero-add, arith}
use Rattle.std.specs.List.{All, list_any, list_all, fold, range_with_len}
use Rattle.std.proofs.lemmas.Bool.{false≢true, cases_eq, cases_lt, eq-eqb, ne_eqb, cond-true, cond-false, eqb-true, ltb-true, and_parts}
use Rattle.std.proofs.lemmas.List.{length_push, length-map, map_push, get_or-map, get_or_append_left, get_or_push}
use Rattle.std.proofs.lemmas.List.Elements.{All-nil, All-head, All-tail, All-weaker, All-push}
use Rattle.std.proofs.lemmas.List.Folds.{position_or_len_push}
use Rattle.std.proofs.lemmas.List.Sums.{fold_push, position_or_len_is, AllPass-from_list_all, passes_at_first, fails_before_first}
use Rattle.std.proofs.lemmas.List.FromFn.{length-range_with_len, get_or-range_with_len}
use Rattle.uc_topology.specs.declared.tables.Core.{Core}
use Rattle.uc_topology.specs.declared.tables.GroupFacts.{GroupFacts}
use Rattle.uc_topology.specs.Stated.{Stated, AreTables, AreGroups, IsPartition, group_of, with_new, groups_of, group_count, group_facts, core_at, no_core, first_core, lead, thread_groups, primary}
use Rattle.uc_topology.specs.Grammar.{same_facts, is_full}

-- ---- numbers in a row

in_range : (low n g : ℕ) → low ≤ g → g < low + n → list_any (λ other. nat_eq other g) (range_with_len low n) ≡ true
in_range low zero g above below = absurd (omega arith)
in_range low (suc n) g above below =
    elim (cases_eq low g) [
      | inl same ↦ rw (eq-eqb low g same) refl
      | inr other ↦ rw (ne_eqb low g other) (in_range (low + 1) n g (omega arith) (omega arith))
    ]

past_range : (low n g : ℕ) → low + n ≤ g → list_any (λ other. nat_eq other g) (range_with_len low n) ≡ false
past_range low zero g past = refl
past_range low (suc n) g past = let other : low ≢ g = omega arith in rw (ne_eqb low g other) (past_range (low + 1) n g (omega arith))

range-push : (low n : ℕ) → range_with_len low n ++ (low + n) ∷ [] ≡ range_with_len low (suc n)
range-push low zero = ap (λ (k : ℕ). k ∷ []) (omega arith)
range-push low (suc n) = ap (λ (ks : List ℕ). low ∷ ks) (ap (λ (k : ℕ). range_with_len (low + 1) n ++ k ∷ []) (omega arith) ∙ range-push (low + 1) n)

add-one' : (n : ℕ) → suc n ≡ n + 1
add-one' n = omega arith

-- ---- groups

groups_of-push : (cores : List Core) (core : Core) → groups_of (cores ++ core ∷ []) ≡ with_new (groups_of cores) core.group
unfolding groups_of
groups_of-push cores core = ap (fold with_new []) (map_push group_of cores core) ∙ fold_push with_new [] (map group_of cores) core.group

old_group : (cores : List Core) (core : Core) (n : ℕ) → groups_of cores ≡ range_with_len 0 n → core.group < n → groups_of (cores ++ core ∷ []) ≡ range_with_len 0 n
old_group cores core n are lt = groups_of-push cores core ∙ ap (λ (seen : List ℕ). with_new seen core.group) are ∙ rw (in_range 0 n core.group (omega arith) (omega arith)) refl

new_group : (cores : List Core) (core : Core) (n : ℕ) → groups_of cores ≡ range_with_len 0 n → core.group ≡ n → groups_of (cores ++ core ∷ []) ≡ range_with_len 0 (n + 1)
new_group cores core n are is =
    groups_of-push cores core ∙ ap (λ (seen : List ℕ). with_new seen core.group) are ∙ rw (past_range 0 n core.group (omega arith)) (ap (λ (k : ℕ). range_with_len 0 n ++ k ∷ []) (omega arith) ∙ range-push 0 n ∙ ap (range_with_len 0) (add-one' n))

count_from : (cores : List Core) (n : ℕ) → groups_of cores ≡ range_with_len 0 n → group_count cores ≡ n
count_from cores n are = ap length are ∙ length-range_with_len 0 n

-- ---- first cores

-- the first core of a group that has one stays
first_stays : (cores : List Core) (core : Core) (g : ℕ) → first_core cores g < length cores → first_core (cores ++ core ∷ []) g ≡ first_core cores g
first_stays cores core g lt = position_or_len_push (λ core. nat_eq (group_of core) g) cores core ∙ cond-false _ _ _ (ne_eqb (first_core cores g) (length cores) (λ e. omega (arith, e, lt)))

-- a core of a new group is that group's first
first_is_new : (cores : List Core) (core : Core) (n : ℕ) → All (λ core. core.group < n) cores → core.group ≡ n → first_core (cores ++ core ∷ []) n ≡ length cores
first_is_new cores core n are is =
    let none : first_core cores n ≡ length cores = position_or_len_is (λ core. nat_eq (group_of core) n) cores (length cores) no_core (omega arith) (λ k lt. ne_eqb (core_at cores k).group n (λ e. omega (arith, e, are k no_core lt))) (λ lt. absurd (omega (arith, lt))) in
    position_or_len_push (λ core. nat_eq (group_of core) n) cores core ∙ cond-true _ _ _ (eq-eqb (first_core cores n) (length cores) none) ∙ rw (eq-eqb core.group n is) (omega arith)

-- the groups of threads on cores that stand
thread_groups_stay : (cores : List Core) (core : Core) (threads : List ℕ) → All (λ core. core < length cores) threads
    → map (λ k. group_of (core_at (cores ++ core ∷ []) k)) threads ≡ map (λ k. group_of (core_at cores k)) threads
thread_groups_stay cores core [] known = refl
thread_groups_stay cores core (k ∷ ks) known =
    let same : core_at (cores ++ core ∷ []) k ≡ core_at cores k = get_or_append_left cores (core ∷ []) no_core k (All-head (λ k. k < length cores) k ks known) in
    rw same (ap (λ (groups : List ℕ). group_of (core_at cores k) ∷ groups) (thread_groups_stay cores core ks (All-tail (λ k. k < length cores) k ks known)))

-- ---- facts

same_numbers : (a b : ℕ) → nat_eq a b ≡ true → a ≡ b
same_numbers a b e = eqb-true a b e

abbrev facts_of : ℕ → ℕ → ℕ → GroupFacts
facts_of sig flags rev = record { sig = sig; flags = flags; rev = rev }

facts_agree : (a b : GroupFacts) → same_facts a b ≡ true → a ≡ b
facts_agree a b e =
    let two = and_parts (nat_eq a.sig b.sig && nat_eq a.flags b.flags) (nat_eq a.rev b.rev) e in
    let one = and_parts (nat_eq a.sig b.sig) (nat_eq a.flags b.flags) two.0 in
    let sig = same_numbers a.sig b.sig one.0 in
    let flags = same_numbers a.flags b.flags one.1 in
    let rev = same_numbers a.rev b.rev two.1 in
    ap (λ (n : ℕ). facts_of n a.flags a.rev) sig ∙ ap (λ (n : ℕ). facts_of b.sig n a.rev) flags ∙ ap (facts_of b.sig b.flags) rev

-- the facts of a group that has a core stay
group_facts_stay : (cores : List Core) (core : Core) (g : ℕ) → first_core cores g < length cores → group_facts (cores ++ core ∷ []) g ≡ group_facts cores g
group_facts_stay cores core g lt =
    ap (λ (k : ℕ). (core_at (cores ++ core ∷ []) k).facts) (first_stays cores core g lt) ∙ ap (λ (c : Core). c.facts) (get_or_append_left cores (core ∷ []) no_core (first_core cores g) lt)

-- where each group keeps its first core, the cores that stand agree as before, and a new one where it does
agree_more : (cores : List Core) (core : Core) → ((k : ℕ) → k < length cores → (core_at cores k).facts ≡ group_facts cores (core_at cores k).group)
    → ((k : ℕ) → k < length cores → first_core cores (core_at cores k).group < length cores) → core.facts ≡ group_facts (cores ++ core ∷ []) core.group
    → (k : ℕ) → k < length (cores ++ core ∷ []) → (core_at (cores ++ core ∷ []) k).facts ≡ group_facts (cores ++ core ∷ []) (core_at (cores ++ core ∷ []) k).group
agree_more cores core before first here k lt =
    elim (cases_lt k (length cores)) [
      | inl old ↦
          let same : core_at (cores ++ core ∷ []) k ≡ core_at cores k = get_or_append_left cores (core ∷ []) no_core k old in
          rw same (before k old ∙ sym (group_facts_stay cores core (core_at cores k).group (first k old)))
      | inr new ↦
          let at : core_at (cores ++ core ∷ []) k ≡ core = get_or_push cores core no_core k (omega (arith, length_push cores core, lt, new)) in
          rw at here
    ]

-- ---- the tables

-- each group has a core
first_below : (cores : List Core) (threads groups firsts : List ℕ) → AreTables cores threads groups firsts → (g : ℕ) → g < length firsts → first_core cores g < length cores
first_below cores threads groups firsts are g below = subst (λ (k : ℕ). k < length cores) (are.first g below) (are.first_in g below)

-- what the tables keep of groups
pub groups_from : (cores : List Core) (threads groups firsts : List ℕ) → AreTables cores threads groups firsts → AreGroups (record { cores = cores; threads = threads })
groups_from cores threads groups firsts are = record {
  threads_fit = are.threads_fit;
  cores_fit = are.cores_fit;
  on_cores = are.on_cores;
  in_groups = All-weaker (λ core. core.group < length firsts) (λ core. core.group < group_count cores) (λ core below. omega (arith, are.count, below)) cores are.in_groups;
  has_core = λ g below. first_below cores threads groups firsts are g (omega (arith, are.count, below));
  agree = are.agree;
}

-- a group with a core that has a thread has a lowest thread
primary_below : (stated : Stated) (g : ℕ) → first_core stated.cores g < length stated.cores → lead stated (first_core stated.cores g) < length stated.threads → primary stated g < length stated.threads
primary_below stated g core_in thread_in =
    let core : ℕ = first_core stated.cores g in
    let thread : ℕ = lead stated core in
    let on : get_or stated.threads thread 0 ≡ core = eqb-true _ _ (passes_at_first (λ other. nat_eq other core) stated.threads 0 thread_in) in
    let in_group : group_of (core_at stated.cores core) ≡ g = eqb-true _ _ (passes_at_first (λ c. nat_eq (group_of c) g) stated.cores no_core core_in) in
    let here : get_or (thread_groups stated) thread 0 ≡ g = get_or-map (λ c. group_of (core_at stated.cores c)) stated.threads thread 0 0 thread_in ∙ ap (λ (c : ℕ). group_of (core_at stated.cores c)) on ∙ in_group in
    elim (cases_lt (primary stated g) (length stated.threads)) [
      | inl lt ↦ lt
      | inr le ↦ absurd (false≢true (sym (fails_before_first (λ other. nat_eq other g) (thread_groups stated) thread 0 (omega (arith, le, thread_in))) ∙ eq-eqb _ _ here))
    ]

-- whole tables are a partition
pub partition_from : (stated : Stated) → AreGroups stated → is_full stated ≡ true → IsPartition stated
partition_from stated groups whole =
    let parts = and_parts (nat_lt 0 (length stated.threads)) (list_all (λ core. nat_lt (lead stated core) (length stated.threads)) (range_with_len 0 (length stated.cores))) whole in
    let each = AllPass-from_list_all (λ core. nat_lt (lead stated core) (length stated.threads)) (range_with_len 0 (length stated.cores)) parts.1 in
    let has_thread : (core : ℕ) → core < length stated.cores → lead stated core < length stated.threads = λ core below.
    let number : get_or (range_with_len 0 (length stated.cores)) core 0 ≡ core = get_or-range_with_len 0 (length stated.cores) core 0 below ∙ zero-add core in
    ltb-true (lead stated core) (length stated.threads) (subst (λ (k : ℕ). nat_lt (lead stated k) (length stated.threads) ≡ true) number (each core 0 (omega (arith, length-range_with_len 0 (length stated.cores), below)))) in
    record {
      groups = groups;
      some_thread = ltb-true 0 (length stated.threads) parts.0;
      has_thread = has_thread;
      has_primary = λ g below. primary_below stated g (groups.has_core g below) (has_thread (first_core stated.cores g) (groups.has_core g below));
    }

pub AreTables-old_group : (cores : List Core) (threads groups firsts : List ℕ) (core : Core) → AreTables cores threads groups firsts → length cores < 256 → core.group < length firsts → same_facts core.facts (group_facts cores core.group) ≡ true → AreTables (cores ++ core ∷ []) threads groups firsts
AreTables-old_group cores threads groups firsts core are room lt agrees =
    let different = old_group cores core (length firsts) are.different lt in
    record {
      cores_fit = omega (arith, length_push cores core, room);
      threads_fit = are.threads_fit;
      groups = are.groups ∙ sym (thread_groups_stay cores core threads are.on_cores);
      on_cores = All-weaker (λ k. k < length cores) (λ k. k < length (cores ++ core ∷ [])) (λ k below. omega (arith, length_push cores core, below)) threads are.on_cores;
      fewer = omega (arith, length_push cores core, are.fewer);
      count = count_from (cores ++ core ∷ []) (length firsts) different;
      different = different;
      in_groups = All-push (λ core. core.group < length firsts) cores core are.in_groups lt;
      first = λ g below. are.first g below ∙ sym (first_stays cores core g (subst (λ (k : ℕ). k < length cores) (are.first g below) (are.first_in g below)));
      first_in = λ g below. omega (arith, length_push cores core, are.first_in g below);
      agree = agree_more cores core are.agree (λ k below. first_below cores threads groups firsts are _ (are.in_groups k no_core below)) (facts_agree _ _ agrees ∙ sym (group_facts_stay cores core core.group (first_below cores threads groups firsts are core.group lt)));
    }

pub AreTables-new_group : (cores : List Core) (threads groups firsts : List ℕ) (core : Core) (number : ℕ) → AreTables cores threads groups firsts → length cores < 256 → core.group ≡ length firsts → number ≡ length cores
    → AreTables (cores ++ core ∷ []) threads groups (firsts ++ number ∷ [])
AreTables-new_group cores threads groups firsts core number are room is next =
    let longer : length (firsts ++ number ∷ []) ≡ length firsts + 1 = length_push firsts number in
    let own : core_at (cores ++ core ∷ []) (first_core (cores ++ core ∷ []) core.group) ≡ core =
    ap (λ (g : ℕ). core_at (cores ++ core ∷ []) (first_core (cores ++ core ∷ []) g)) is ∙ ap (core_at (cores ++ core ∷ [])) (first_is_new cores core (length firsts) are.in_groups is) ∙ get_or_push cores core no_core (length cores) refl in
    let different : groups_of (cores ++ core ∷ []) ≡ range_with_len 0 (length (firsts ++ number ∷ [])) = new_group cores core (length firsts) are.different is ∙ ap (range_with_len 0) (sym longer) in
    record {
      cores_fit = omega (arith, length_push cores core, room);
      threads_fit = are.threads_fit;
      groups = are.groups ∙ sym (thread_groups_stay cores core threads are.on_cores);
      on_cores = All-weaker (λ k. k < length cores) (λ k. k < length (cores ++ core ∷ [])) (λ k below. omega (arith, length_push cores core, below)) threads are.on_cores;
      fewer = omega (arith, longer, length_push cores core, are.fewer);
      count = count_from (cores ++ core ∷ []) _ different;
      different = different;
      in_groups = All-push (λ core. core.group < length (firsts ++ number ∷ [])) cores core (All-weaker (λ core. core.group < length firsts) (λ core. core.group < length (firsts ++ number ∷ [])) (λ c below. omega (arith, longer, below)) cores are.in_groups) (omega (arith, longer, is));
      first = λ g below. elim (cases_lt g (length firsts)) [
        | inl lt ↦ get_or_append_left firsts (number ∷ []) 0 g lt ∙ are.first g lt ∙ sym (first_stays cores core g (subst (λ (k : ℕ). k < length cores) (are.first g lt) (are.first_in g lt)))
        | inr le ↦
            let at : g ≡ length firsts = omega (arith, longer, below, le) in
            subst (λ (k : ℕ). get_or (firsts ++ number ∷ []) k 0 ≡ first_core (cores ++ core ∷ []) k) (sym at) (get_or_push firsts number 0 (length firsts) refl ∙ next ∙ sym (first_is_new cores core (length firsts) are.in_groups is))
      ];
      first_in = λ g below. elim (cases_lt g (length firsts)) [
        | inl lt ↦ omega (arith, length_push cores core, get_or_append_left firsts (number ∷ []) 0 g lt, are.first_in g lt)
        | inr le ↦ omega (arith, length_push cores core, get_or_push firsts number 0 g (omega (arith, longer, below, le)), next)
      ];
      agree = agree_more cores core are.agree (λ k below. first_below cores threads groups firsts are _ (are.in_groups k no_core below)) (sym (ap (λ (c : Core). c.facts) own));
    }

-- no core and no thread
pub AreTables-none : AreTables [] [] [] []
unfolding groups_of
AreTables-none = record {
  agree = λ core below. absurd (omega (arith, below));
  cores_fit = omega arith;
  threads_fit = omega arith;
  groups = refl;
  on_cores = All-nil (λ k. k < 0);
  fewer = omega arith;
  count = refl;
  different = refl;
  in_groups = All-nil (λ core. core.group < 0);
  first = λ g below. absurd (omega (arith, below));
  first_in = λ g below. absurd (omega (arith, below));
}

-- a table of the numbers below a count
pub at_range : (f : ℕ → ℕ) (n k : ℕ) → k < n → get_or (map f (range_with_len 0 n)) k 0 ≡ f k
at_range f n k lt = get_or-map f (range_with_len 0 n) k 0 0 (omega (arith, length-range_with_len 0 n, lt)) ∙ ap f (get_or-range_with_len 0 n k 0 lt ∙ zero-add k)

pub length_range : (f : ℕ → ℕ) (n : ℕ) → length (map f (range_with_len 0 n)) ≡ n
length_range f n = length-map (range_with_len 0 n) f ∙ length-range_with_len 0 n

-- one number more in such a table
pub range_table-push : (f : ℕ → ℕ) (n : ℕ) (places after : List ℕ) (place : ℕ) → places ≡ map f (range_with_len 0 n) → place ≡ f n → after ≡ places ++ place ∷ [] → after ≡ map f (range_with_len 0 (n + 1))
range_table-push f n places after place so_far is more =
    more ∙ rw (so_far, is) (sym (ap (map f) (ap (range_with_len 0) (sym (add-one' n)) ∙ sym (range-push 0 n)) ∙ map_push f (range_with_len 0 n) (0 + n) ∙ ap (λ (k : ℕ). map f (range_with_len 0 n) ++ f k ∷ []) (zero-add n)))

-- a test of each entry is one of each number
pub list_all_map : {X : Type 0} (p : ℕ → Bool) (f : X → ℕ) (xs : List X) → list_all p (map f xs) ≡ list_all (λ x. p (f x)) xs
list_all_map p f [] = refl
list_all_map p f (x ∷ xs) = ap (λ (b : Bool). p (f x) && b) (list_all_map p f xs)
