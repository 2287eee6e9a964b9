-- A line that begins a library, and one that a library has.
use Rattle.trio_script.proofs.Words.{◌++◌, ◌+◌, ◌<◌, ◌||◌, ◌∷◌, ◌≡◌, ◌≤◌, Begun, BegunLines, Bool, Err, Honest, HonestBegun, LibLine, List, None, Option, Raw, RawBegun, Some, [], ap, append-nil, append_assoc, arith, bytes_eq, codes, count_of, eqb, false, honest_said, is_some, lib_with, library_said, libs_as, libs_from, libs_with, lines_and, lines_seen, names_library, nat_lt, nat_tests, own_lines, refl, said_at, says_library, sym, true, words_of, ℕ}
use Rattle.std.proofs.Common.{Result, Ok, IfOk}
use Rattle.std.specs.List.{onto_first}
use Rattle.std.proofs.lemmas.List.Splits.{slice_split-cons_no}
use Rattle.std.specs.declared.alloc.AllocError.{AllocError}
use Rattle.trio_script.specs.Said.{library_in, line_said}
use Rattle.trio_script.specs.Script.{is_next, is_silent}
use Rattle.trio_script.specs.inner.Taken.{Begins, Takes, TakesOwn, with_line}

-- fewer than 16 libraries began before the next one
lt-is_next : (begun : ℕ) (line : Option LibLine) → is_next begun line ≡ true → begun < 16
lt-is_next begun (Some line) e = grind (arith, nat_tests)
lt-is_next begun None e = absurd cc

-- the next one is said
says-is_next : (begun : ℕ) (line : Option LibLine) → is_next begun line ≡ true → is_some line ≡ true
says-is_next begun (Some line) e = refl
says-is_next begun None e = absurd cc

-- words of which the first isn't `lib` say no library
says_nothing : (command : List ℕ) → bytes_eq command (codes "lib") ≡ false → (words : List (List ℕ)) → is_some (library_in (command ∷ words)) ≡ false
says_nothing command e [] = refl
says_nothing command e (n ∷ []) = refl
says_nothing command e (n ∷ k ∷ []) = refl
says_nothing command e (n ∷ k ∷ u ∷ []) = refl
says_nothing command e (n ∷ k ∷ u ∷ g ∷ []) = rw e refl
says_nothing command e (n ∷ k ∷ u ∷ g ∷ x ∷ words) = refl

-- nor do those behind `#`
says_nothing-hash : (b : ℕ) → eqb b 35 ≡ true → (words : List (List ℕ)) → is_some (library_in (onto_first b words)) ≡ false
says_nothing-hash b e [] = refl
says_nothing-hash b e (word ∷ words) =
    let other : eqb b 108 ≡ false = grind (arith, nat_tests) in
    says_nothing (b ∷ word) (rw other refl) words

-- a line that says nothing says no library
pub says-is_silent : (line : List ℕ) → is_silent line ≡ true → says_library line ≡ false
says-is_silent [] e = refl
says-is_silent (b ∷ bytes) e =
    let other : eqb b 32 ≡ false = grind (arith, nat_tests) in
    rw (slice_split-cons_no (λ c. eqb c 32) b bytes other) (says_nothing-hash b e (words_of bytes))

-- behind a library's line a library began
some-count_of : (begun begun' : Option Begun) → count_of begun' ≡ count_of begun + 1 → (more : Bool) → (is_some begun || true) ≡ (is_some begun' || more)
some-count_of None None e more = absurd (omega (arith, e))
some-count_of (Some b) None e more = absurd (omega (arith, e))
some-count_of None (Some b) e more = refl
some-count_of (Some b) (Some b') e more = refl

not_over : (number : ℕ) → number ≤ 16384 → nat_lt 16384 number ≡ false
not_over number le = grind (arith, nat_tests)

-- the lines of a library end where the next one begins
lines_and-named : (lines : BegunLines) (number : ℕ) (line : List ℕ) (more : List (List ℕ)) → names_library line ≡ true → lines_and lines number (line ∷ more) ≡ lines_seen lines
lines_and-named (RawBegun lines) number line more names = rw (names, append-nil lines.items) refl
lines_and-named (HonestBegun lines) number line more names = rw (names, append-nil lines.items) refl

libs_with-named : (begun : Option Begun) (number : ℕ) (line : List ℕ) (more : List (List ℕ)) → names_library line ≡ true → libs_with begun number (line ∷ more) ≡ libs_as begun
libs_with-named None number line more names = refl
libs_with-named (Some b) number line more names = rw (lines_and-named b.lines number line more names) refl

-- one line more
lines_and-cons : (old new : BegunLines) (number : ℕ) (line : List ℕ) (more : List (List ℕ)) → names_library line ≡ false → lines_seen new ≡ with_line old number line
    → lines_and old number (line ∷ more) ≡ lines_and new (number + 1) more
lines_and-cons (RawBegun old) (RawBegun new) number line more names e =
    let items : new.items ≡ old.items ++ said_at number (line_said line) = cc e in
    rw (names, items) (ap Raw (sym (append_assoc old.items (said_at number (line_said line)) (own_lines line_said (number + 1) more))))
lines_and-cons (HonestBegun old) (HonestBegun new) number line more names e =
    let items : new.items ≡ old.items ++ said_at number (honest_said line) = cc e in
    rw (names, items) (ap Honest (sym (append_assoc old.items (said_at number (honest_said line)) (own_lines honest_said (number + 1) more))))
lines_and-cons (RawBegun old) (HonestBegun new) number line more names e = absurd (cc e)
lines_and-cons (HonestBegun old) (RawBegun new) number line more names e = absurd (cc e)

module _ (number : ℕ) (line : List ℕ) (le : number ≤ 16384) (says : is_silent line ≡ false) where
  module _ (begun begun' : Option Begun) (names : names_library line ≡ true) where
    line_takes : (answer : Bool) → Begins line begun begun' answer → Takes number line begun begun' answer
    line_takes true b = record {
      counted = le;
      first = λ more. rw (not_over number le, says, names, b.next, b.counted, b.kind) refl;
      named = λ more. rw (says-is_next (count_of begun) (library_said line) b.next) (some-count_of begun begun' b.counted more);
      said = λ more. rw (libs_with-named begun number line more names, names, b.said (number + 1) more) (sym (append_assoc (libs_as begun) (lib_with (library_said line) (number + 1) more) (libs_from (number + 1) more)));
      few = λ _. omega (arith, b.counted, lt-is_next (count_of begun) (library_said line) b.next);
    }
    line_takes false b = record {
      first = λ more. rw (not_over number le, says, names, b.next) refl;
      same = ap is_some b.same;
    }

    pub library_takes : (answer : Result Bool AllocError) → IfOk answer (Begins line begun begun') → IfOk answer (Takes number line begun begun')
    library_takes (Ok answer) b = line_takes answer b
    library_takes (Err e) b = tt

  module _ (b b' : Begun) (names : names_library line ≡ false) where
    own_said : (answer : Bool) → TakesOwn number line b b' answer → (more : List (List ℕ)) → libs_with (Some b) number (line ∷ more) ≡ libs_with (Some b') (number + 1) more
    own_said answer t more = rw (t.whole, t.creds, lines_and-cons b.lines b'.lines number line more names t.own.lines) refl

    own_takes : (answer : Bool) → TakesOwn number line b b' answer → Takes number line (Some b) (Some b') answer
    own_takes true t = record {
      counted = le;
      first = λ more. rw (not_over number le, says, names, ← t.own.form, t.own.kind, t.whole) refl;
      named = λ more. refl;
      said = λ more. rw (names, own_said true t more) refl;
      few = λ few. rw t.whole few;
    }
    own_takes false t = record {
      first = λ more. rw (not_over number le, says, names, ← t.own.form) refl;
      same = refl;
    }

    pub form_takes : (answer : Result Bool AllocError) → IfOk answer (TakesOwn number line b b') → IfOk answer (Takes number line (Some b) (Some b'))
    form_takes (Ok answer) t = own_takes answer t
    form_takes (Err e) t = tt
