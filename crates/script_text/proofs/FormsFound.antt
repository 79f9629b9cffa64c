-- The forms that lines are found to have.
use Rattle.std.proofs.Common.{◌≡◌, ◌≢◌, ◌≤◌, ℕ, Bool, true, false, cond, List, [], ◌∷◌, length, drop, Some, refl, sym, ap, ◌∙◌}
use Rattle.std.specs.List.{find, list_all}
use Rattle.std.specs.Str.{is_utf8}
use Rattle.std.proofs.lemmas.Bool.{leb-true, and_parts}
use Rattle.uc_text.specs.Lines.{words_of}
use Rattle.script_text.specs.declared.forms.Form.{Form}
use Rattle.script_text.specs.declared.forms.Form.TheVariants as form
use Rattle.script_text.specs.declared.forms.Place.{Place}
use Rattle.script_text.specs.declared.forms.Place.TheVariants.{Front, Top, AfterPool, Commands, InLoad}
use Rattle.script_text.specs.Forms.{forms, has_form, form_of, are_names}

-- what is found passes, and is as all are that it was found among
module _ {X : Type 0} (p q : X → Bool) where
  found_next : (b : Bool) (x y : X) (xs : List X) → p x ≡ b → q x ≡ true → cond b (Some x) (find p xs) ≡ Some y → (find p xs ≡ Some y → (p y ≡ true) × (q y ≡ true)) → (p y ≡ true) × (q y ≡ true)
  found_next true x y xs passes is found later = let same : x ≡ y = cc in (ap p (sym same) ∙ passes, ap q (sym same) ∙ is)
  found_next false x y xs passes is found later = later found

  pub found : (xs : List X) (y : X) → list_all q xs ≡ true → find p xs ≡ Some y → (p y ≡ true) × (q y ≡ true)
  found [] y all is = absurd cc
  found (x ∷ xs) y all is = let parts = and_parts (q x) (list_all q xs) all in found_next (p x) x y xs refl parts.0 is (found xs y parts.1)

-- a form of a line that stands outside loads, and one of a line within them
abbrev pub is_outside : Form → Bool
is_outside form.End = false
is_outside form.Beats = false
is_outside one = true

abbrev pub is_inside : Form → Bool
is_inside form.End = true
is_inside form.Beats = true
is_inside one = false

abbrev any : Form → Bool
any one = true

-- words have the form that is found
pub form_passes : (place : Place) (words : List (List ℕ)) (one : Form) → form_of place words ≡ Some one → has_form words one ≡ true
unfolding form_of
form_passes Front words one is = (found (has_form words) any (forms Front) one refl is).0
form_passes Top words one is = (found (has_form words) any (forms Top) one refl is).0
form_passes AfterPool words one is = (found (has_form words) any (forms AfterPool) one refl is).0
form_passes Commands words one is = (found (has_form words) any (forms Commands) one refl is).0
form_passes InLoad words one is = (found (has_form words) any (forms InLoad) one refl is).0

pub form_outside : (place : Place) (words : List (List ℕ)) (one : Form) → place ≢ InLoad → form_of place words ≡ Some one → is_outside one ≡ true
unfolding form_of
form_outside Front words one out is = (found (has_form words) is_outside (forms Front) one refl is).1
form_outside Top words one out is = (found (has_form words) is_outside (forms Top) one refl is).1
form_outside AfterPool words one out is = (found (has_form words) is_outside (forms AfterPool) one refl is).1
form_outside Commands words one out is = (found (has_form words) is_outside (forms Commands) one refl is).1
form_outside InLoad words one out is = absurd (out refl)

-- a form that stands within loads alone is found there
pub only_inside : (place : Place) (words : List (List ℕ)) (one : Form) → is_outside one ≡ false → form_of place words ≡ Some one → place ≡ InLoad
unfolding form_of
only_inside Front words one inside is = let out = (found (has_form words) is_outside (forms Front) one refl is).1 in absurd cc
only_inside Top words one inside is = let out = (found (has_form words) is_outside (forms Top) one refl is).1 in absurd cc
only_inside AfterPool words one inside is = let out = (found (has_form words) is_outside (forms AfterPool) one refl is).1 in absurd cc
only_inside Commands words one inside is = let out = (found (has_form words) is_outside (forms Commands) one refl is).1 in absurd cc
only_inside InLoad words one inside is = refl

-- ---- names

-- so many names, each in UTF-8
pub record AreNames (least : ℕ) (words : List (List ℕ)) : Type 0 where
  pub least_is : least ≤ length words
  pub most : length words ≤ 16
  pub each : list_all is_utf8 words ≡ true

are_names_parts : (least : ℕ) (words : List (List ℕ)) → are_names least words ≡ true → AreNames least words
are_names_parts least words are =
    let parts = and_parts _ _ are in
    let bounds = and_parts _ _ parts.0 in
    record { least_is = leb-true least (length words) bounds.0; most = leb-true (length words) 16 bounds.1; each = parts.1 }

pub boot_names : (words : List (List ℕ)) → has_form words form.Boot ≡ true → AreNames 0 (drop 1 words)
unfolding words_of
boot_names words is = are_names_parts 0 (drop 1 words) ((and_parts _ _ is).1)

pub load_names : (words : List (List ℕ)) → has_form words form.Load ≡ true → AreNames 1 (drop 1 words)
unfolding words_of
load_names words is = are_names_parts 1 (drop 1 words) ((and_parts _ _ is).1)

pub force_names : (words : List (List ℕ)) → has_form words form.LoadForce ≡ true → AreNames 1 (drop 1 words)
unfolding words_of
force_names words is = are_names_parts 1 (drop 1 words) ((and_parts _ _ is).1)
