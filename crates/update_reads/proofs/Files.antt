-- The catalogue of files that were read.
use Rattle.std.proofs.Common.{◌≡◌, ℕ, Err, suc, ◌+◌, ◌<◌, ◌≤◌, List, [], ◌∷◌, ◌++◌, Bool, true, length, map, take, drop, Some, refl, sym, ◌∙◌, ap, subst, arith, append_assoc, length-append}
use Rattle.std.specs.Prelude.{slice_get}
use Rattle.std.proofs.Math.Seq.{split_at}
use Rattle.std.proofs.lemmas.List.{take_more, map-append, append-nil, length-map, length-take-le}
use Rattle.std.proofs.lemmas.Option.{get_or_from_slice_get, slice_get_within}
use Rattle.uc_bytes.specs.declared.causes.FileFault.{FileFault}
use Rattle.entry_model.specs.Reading.{Reading}
use Rattle.entry_model.specs.Entry.{Entry, entries_of, entries_from}
use Rattle.uc_bytes.specs.declared.TheConstants.{FILE_LIMIT}
use Rattle.read_model.specs.Accepts.{Refuses, AreAccepted}
use Rattle.read_model.specs.Reads.{Read, files_of, ComesTo}
use Rattle.read_model.proofs.Accepted.{accepted_length, accepted_push}
use Rattle.read_model.proofs.Outcomes.{held_nil, held_one, held_append}
use Rattle.uc_catalog.specs.Contents.{FileSum, Contents, sum_of, kept, no_files, Adds}
use Rattle.uc_catalog.proofs.Kept.{kept_all}
use Rattle.uc_io.specs.Faults.{Rose}
use Rattle.update_reads.specs.declared.answers.FilesAnswer.{FilesAnswer}
use Rattle.update_reads.specs.declared.answers.UpdateAnswer.{UpdateAnswer}
use Rattle.update_reads.specs.declared.answers.UpdateAnswer.TheVariants.{ReadFault, BadFile, NoMemory}
use Rattle.update_reads.specs.Reading.{in_place, IsUpdateRead, IsOfFiles, UnreadAt, RefusedAt, AreFilesRead}

entries_push : (number : ℕ) (rs : List Reading) (r : Reading) → entries_from number (rs ++ r ∷ [])
    ≡ entries_from number rs ++ entries_of (number + length rs) r
entries_push number [] r = append-nil (entries_of number r) ∙ ap (λ (n : ℕ). entries_of n r) (omega arith)
entries_push number (s ∷ rs) r =
    ap (λ (l : List Entry). entries_of number s ++ l) (entries_push (number + 1)
    rs r ∙ ap (λ (n : ℕ). entries_from (number + 1) rs ++ entries_of n r) (omega arith))
    ∙ sym (append_assoc (entries_of number s) (entries_from (number + 1) rs) (entries_of (number + suc (length rs)) r))

names_more : (names : List (List ℕ)) (i : ℕ) (name : List ℕ) → slice_get names i ≡ Some name → take (i + 1)
    names ≡ take i names ++ name ∷ []
names_more names i name at =
    take_more names i name (slice_get_within names i name at) ∙ ap (λ (n : List ℕ). take i names ++ n ∷ [])
    (get_or_from_slice_get names i name name at)

names_split : (names : List (List ℕ)) (i : ℕ) (name : List ℕ) → slice_get names i ≡ Some name →
    names ≡ take i names ++ name ∷ drop (suc i) names
names_split names i name at =
    split_at names i name (slice_get_within names i name at) ∙ ap (λ (n : List ℕ). take i names ++ n ∷ drop (suc i)
    names) (get_or_from_slice_get names i name name at)

module _ (tells : Type 0) (names : List (List ℕ)) (holds : List ℕ → List ℕ) where
  -- no file yet
  pub none_yet : (keeps : Bool) → IsOfFiles tells (take 0 names) holds (no_files keeps)
  none_yet keeps = record {
    reads = [];
    held = λ told. held_nil holds;
    in_order = refl;
    readings = [];
    accepted = tt;
    of = record { files = refl; entries = refl };
  }

  -- how many files it has
  pub files_count : (contents : Contents) → IsOfFiles tells names holds contents → length contents.files ≡ length names
  files_count contents of =
      ap (λ (l : List FileSum). length l) of.of.files ∙ length-map of.readings sum_of ∙ accepted_length (files_of of.reads) of.readings of.accepted
      ∙ length-map of.reads (λ (read : Read). read.bytes)
      ∙ sym (length-map of.reads (λ (read : Read). read.name)) ∙ ap length of.in_order

  -- where it keeps their bytes, its entries are all of theirs
  pub all_entries : (contents : Contents) (of : IsOfFiles tells names holds contents) → contents.keeps ≡ true → contents.entries ≡ entries_from 0 of.readings
  all_entries contents of keep =
      of.of.entries ∙ ap (λ (k : Bool). map (kept k) (entries_from 0 of.readings)) keep ∙ kept_all (entries_from 0 of.readings)

  -- the file of one name more
  pub one_more : (old new : Contents) (bytes : List ℕ) (i : ℕ) (name : List ℕ) → IsOfFiles tells (take i names)
      holds old → Adds old new bytes → length bytes ≤ FILE_LIMIT → (tells → bytes ≡ holds name) →
      slice_get names i ≡ Some name
      → IsOfFiles tells (take (i + 1) names) holds new
  one_more old new bytes i name of adds within told at =
      let rs = of.readings in
      let read : Read = record { name = name; bytes = bytes } in
      let number : length old.files ≡ length rs = ap (λ (l : List FileSum). length l) of.of.files ∙ length-map rs sum_of in
      let place : length old.files ≡ 0 + length rs = omega (arith, number) in
      let entry = kept old.keeps in
      record {
        reads = of.reads ++ read ∷ [];
        held = λ tell. held_append holds of.reads (read ∷ []) (of.held tell) (held_one holds read (told tell));
        in_order = map-append (λ (r : Read). r.name) of.reads (read ∷ []) ∙ ap (λ (l : List (List ℕ)). l ++ name ∷ [])
            of.in_order ∙ sym (names_more names i name at);
        readings = rs ++ adds.reading ∷ [];
        accepted = subst (λ (files : List (List ℕ)). AreAccepted files (rs ++ adds.reading ∷ []))
            (sym (map-append (λ (r : Read). r.bytes) of.reads (read ∷ [])))
            (accepted_push (files_of of.reads) rs bytes adds.reading of.accepted (record {
              within = within;
              is_reading = adds.is_reading;
            }));
        of = record {
          files = adds.files ∙ ap (λ (l : List FileSum). l ++ sum_of adds.reading ∷ []) of.of.files
              ∙ sym (map-append sum_of rs (adds.reading ∷ []));
          entries = adds.entries ∙ ap (λ (l : List Entry). l ++ map entry (entries_of (length old.files) adds.reading)) of.of.entries
              ∙ ap (λ (n : ℕ). map entry (entries_from 0 rs) ++ map entry (entries_of n adds.reading)) place
              ∙ sym (map-append entry (entries_from 0 rs) (entries_of (0 + length rs) adds.reading))
              ∙ ap (λ (l : List Entry). map entry l) (sym (entries_push 0 rs adds.reading))
              ∙ ap (λ (k : Bool). map (kept k) (entries_from 0 (rs ++ adds.reading ∷ []))) (sym adds.keeps);
        };
      }

  reads_count : (contents : Contents) (i : ℕ) → i < length names → (of : IsOfFiles tells (take i names)
      holds contents) → length of.reads ≡ i
  reads_count contents i inside of =
      sym (length-map of.reads (λ (read : Read). read.name)) ∙ ap length of.in_order ∙ length-take-le i names (omega
      (arith, inside))

  comes_to : (contents : Contents) (i : ℕ) (name : List ℕ) (of : IsOfFiles tells (take i names) holds contents) →
      slice_get names i ≡ Some name → ComesTo names of.reads name
  comes_to contents i name of at = record {
    rest = drop (suc i) names;
    in_order = names_split names i name at ∙ ap (λ (l : List (List ℕ)). l ++ name ∷ drop (suc i) names)
        (sym of.in_order);
    readings = of.readings;
    accepted = of.accepted;
  }

  -- the name that is come to is not read
  not_read : (contents : Contents) (i : ℕ) (name : List ℕ) → i < length names → IsOfFiles tells (take i names)
      holds contents → slice_get names i ≡ Some name → UnreadAt tells names holds i
  not_read contents i name inside of at = record {
    reads = of.reads;
    held = of.held;
    name = name;
    come = comes_to contents i name of at;
    place = reads_count contents i inside of;
  }

  -- or is refused
  refused : (contents : Contents) (i : ℕ) (name bytes : List ℕ) (fault : FileFault) → i < length names →
      IsOfFiles tells (take i names) holds contents → slice_get names i ≡ Some name → (tells → bytes ≡ holds name)
      → Refuses bytes fault.offset fault.cause → RefusedAt tells names holds i fault
  refused contents i name bytes fault inside of at told refuses =
      let read : Read = record { name = name; bytes = bytes } in
      record {
        reads = of.reads ++ read ∷ [];
        held = λ tell. held_append holds of.reads (read ∷ []) (of.held tell) (held_one holds read (told tell));
        name = name;
        come = record {
          before = of.reads;
          bytes = bytes;
          last = refl;
          comes = comes_to contents i name of at;
          refuses = refuses;
        };
        place = omega (arith, length-append of.reads (read ∷ []), reads_count contents i inside of);
      }

  stops : (contents : Contents) (i : ℕ) (name : List ℕ) → i < length names → IsOfFiles tells (take i names)
      holds contents → slice_get names i ≡ Some name → (told : Type 0) (held : List ℕ) (first before now : ℕ)
      (old new : Contents)
      (answer : UpdateAnswer) → (tells → told) → held ≡ holds name → before ≡ first →
      IsUpdateRead told held before now old new (Err answer) →
      AreFilesRead tells names holds first now (Err (in_place i answer))
  stops contents i name inside of at told held first before now old new ReadFault still same count read =
      (subst (λ (b : ℕ). Rose b now) count read.0, not_read contents i name inside of at)
  stops contents i name inside of at told held first before now old new (BadFile fault) still same count read = (
    read.0 ∙ count,
    refused contents i name read.1.0 fault inside of at (λ tell. read.1.1 (still tell) ∙ same)
        read.1.2,
  )
  stops contents i name inside of at told held first before now old new NoMemory still same count read = read.0 ∙ count

  -- it ends the reading of the files, with its place
  pub stopped : (contents : Contents) (place i : ℕ) (name : List ℕ) → place ≡ i → i < length names →
      IsOfFiles tells (take i names) holds contents → slice_get names i ≡ Some name → (told : Type 0) (held : List ℕ)
      (first before now : ℕ) (old new : Contents)
      (answer : UpdateAnswer) (result : FilesAnswer) → result ≡ in_place place answer → (tells → told) →
      held ≡ holds name → before ≡ first → IsUpdateRead told held before now old new (Err answer) →
      AreFilesRead tells names holds first now (Err result)
  stopped contents place i name at_place inside of at told held first before now old new answer result is still same
      count read =
      subst (λ (r : FilesAnswer). AreFilesRead tells names holds first now (Err r)) (ap (λ (n : ℕ). in_place n answer)
      (sym at_place) ∙ sym is)
      (stops contents i name inside of at told held first before now old new answer still same count read)
