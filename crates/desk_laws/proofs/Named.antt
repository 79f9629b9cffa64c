-- Which names a load reads.
use Rattle.std.proofs.Common.{◌≡◌, ℕ, get_or, Bool, List, [], ◌∷◌, ◌++◌, map, Option, refl, sym, ap, ◌∙◌, subst, append_assoc, append-nil}
use Rattle.std.proofs.lemmas.List.{map-append}
use Rattle.std.proofs.lemmas.List.Elements.{All-nil, All-cons, All-head, All-tail}
use Rattle.uc_bytes.specs.declared.causes.FileCause.{FileCause}
use Rattle.session_steps.specs.rendezvous_steps.declared.ends.Beat.{Beat}
use Rattle.session_steps.specs.read_model.Reads.{Read, AreHeld, IsRefused, names_of}
use Rattle.session_steps.specs.session_text.declared.answers.CommandAnswer.{CommandAnswer}
use Rattle.session_steps.specs.session_text.declared.answers.CommandAnswer.TheVariants.{Done, Hot, Load}
use Rattle.session_steps.specs.session_text.declared.answers.LoadAnswer.TheVariants as load
use Rattle.session_steps.specs.State.{Setting, State}
use Rattle.session_steps.specs.Did.{Did}
use Rattle.session_steps.specs.Step.{LoadRow}

-- the reads are of names, in their order, as far as they go
pub record AreOf (names : List (List ℕ)) (reads : List Read) : Type 0 where
  pub rest : List (List ℕ)
  pub in_order : names ≡ names_of reads ++ rest

all_of : (names : List (List ℕ)) (reads : List Read) → names_of reads ≡ names → AreOf names reads
all_of names reads same = record { rest = []; in_order = sym (append-nil (names_of reads) ∙ same) }

none_of : (names : List (List ℕ)) (reads : List Read) → reads ≡ [] → AreOf names reads
none_of names reads none = record {
  rest = names;
  in_order = ap (λ (rs : List Read). names_of rs ++ names) (sym none);
}

refused_of : (names : List (List ℕ)) (reads : List Read) (name : List ℕ) (offset : ℕ) (cause : FileCause)
    (refused : IsRefused names reads name offset cause) →
    AreOf names reads
refused_of names reads name offset cause refused = record {
  rest = refused.comes.rest;
  in_order =
      refused.comes.in_order
      ∙ sym (append_assoc (names_of refused.before) (name ∷ []) refused.comes.rest)
      ∙ ap (λ (ns : List (List ℕ)). ns ++ refused.comes.rest)
      (sym (ap names_of refused.last
      ∙ map-append (λ (read : Read). read.name) refused.before (record { name = name; bytes = refused.bytes } ∷ [])));
}

pub load_reads : (lists : Bool) (setting : Setting) (state : State) (force : Bool) (names : List (List ℕ))
    (beats : List Beat) (did : Did) (answer : CommandAnswer) →
    LoadRow lists setting state force names beats did answer → AreOf names did.reads
load_reads lists setting state force names beats did (Hot answer) row = absurd row.1
load_reads lists setting state force names beats did (Load (load.Busy t)) row =
    none_of names did.reads (ap (λ (d : Did). d.reads) row.1)
load_reads lists setting state force names beats did (Load (load.ReadFault file)) row =
    record { rest = row.1.name ∷ row.1.come.rest; in_order = row.1.come.in_order }
load_reads lists setting state force names beats did (Load (load.BadFile file fault)) row =
    refused_of names did.reads row.1.name fault.offset fault.cause row.1.come
load_reads lists setting state force names beats did (Load load.NotFound) row =
    all_of names did.reads row.1.read.come.0
load_reads lists setting state force names beats did (Load (load.PoolFull needed)) row =
    all_of names did.reads row.1.read.come.0
load_reads lists setting state force names beats did Done row = all_of names did.reads row.1.read.come.0
load_reads lists setting state force names beats did (Load answer) row = all_of names did.reads row.1.read.come.0

-- where there is one name, each read has its file
pub held_of_one : (name : List ℕ) (holds : List ℕ → List ℕ) (reads : List Read) → AreOf (name ∷ []) reads →
    AreHeld holds reads → AreHeld (λ other. holds name) reads
held_of_one name holds [] are held = All-nil (λ (read : Read). read.bytes ≡ holds name)
held_of_one name holds (read ∷ []) are held =
    All-cons (λ (read : Read). read.bytes ≡ holds name) read []
    (All-head (λ (read : Read). read.bytes ≡ holds read.name) read [] held
    ∙ ap holds (sym (ap (λ (names : List (List ℕ)). get_or names 0 name) are.in_order)))
    (All-nil (λ (read : Read). read.bytes ≡ holds name))
held_of_one name holds (read ∷ next ∷ reads) are held = absurd cc
