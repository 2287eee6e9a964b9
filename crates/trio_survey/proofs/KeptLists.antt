-- Names and entries that are kept, as more of them come.
use Rattle.trio_survey.proofs.Words.{◌++◌, ◌+◌, ◌<◌, ◌∙◌, ◌∷◌, ◌≡◌, ◌≤◌, AreNamed, DirEntry, In, In-cases, IsPart, List, Listed, Span, [], ap, append_assoc, arith, drop, drop-append-le, entry_seen, get_or, get_or_append_left, inl, inr, length, length-append, length-drop, listed_seen, map, map-append, refl, sym, take, take-append-drop, take-append-le, take_all, take_more, ℕ}
use Rattle.std.proofs.Math.Seq.{drop-append_seam}
use Rattle.trio_survey.specs.declared.file.EntryRead.{EntryRead}
use Rattle.trio_survey.specs.inner.Blocks.{part, IsFront}

-- a part stays as the list grows
pub part-grown : {X : Type 0} (s : Span) (xs ys : List X) → s.from + s.len ≤ length xs → part s (xs ++ ys) ≡ part s xs
part-grown s xs ys h =
    let a : s.from ≤ length xs = omega arith in
    let b : s.len ≤ length (drop s.from xs) = rw length-drop (omega arith) in
    ap (take s.len) (drop-append-le s.from xs ys a) ∙ take-append-le s.len (drop s.from xs) ys b

-- a name that is there stays as more names come
pub names_grown : (names more : List (List ℕ)) (es : List DirEntry) → AreNamed names es → map (entry_seen (names ++ more)) es ≡ map (entry_seen names) es
names_grown names more [] h = refl
names_grown names more (e ∷ es) h =
    let seen : List ℕ → Listed = λ n. record { entry = record { ino = e.ino; kind = e.kind; name = n }; page = e.page; slot = e.slot; body = e.body } in
    let name : get_or (names ++ more) e.name [] ≡ get_or names e.name [] = get_or_append_left names more [] e.name (h e (inl refl)) in
    let rest = names_grown names more es (λ l i. h l (inr i)) in
    ap (λ n. seen n ∷ map (entry_seen (names ++ more)) es) name ∙ ap (λ ls. entry_seen names e ∷ ls) rest

-- a part of the entries stays one
pub part_stays : (names new : List (List ℕ)) (es more : List DirEntry) (s : Span) → IsPart names es s → IsPart (names ++ new) (es ++ more) s
part_stays names new es more s h = record {
  within = rw length-append (omega (arith, h.within));
  named = λ l i. (let there : In l (part s es) = rw (part-grown s es more h.within) at i in omega (arith, h.named l there, length-append names new));
}

-- and lists what it listed
pub part_seen : (names new : List (List ℕ)) (es more : List DirEntry) (s : Span) → IsPart names es s → map (entry_seen (names ++ new)) (part s (es ++ more)) ≡ map (entry_seen names) (part s es)
part_seen names new es more s h =
    ap (map (entry_seen (names ++ new))) (part-grown s es more h.within) ∙ names_grown names new (part s es) h.named

-- a list went on
pub behind : {X : Type 0} (n : ℕ) (old new : List X) → n ≡ length old → take n new ≡ old → new ≡ old ++ drop n new
behind n old new e h = sym (take-append-drop n new) ∙ ap (λ x. x ++ drop n new) h

-- entries went on, and names
module _ (n m : ℕ) (now next : List DirEntry) (names after : List (List ℕ)) (few : n ≤ m) (whole : m ≡ length now) (front : take m next ≡ now) (names_front : IsFront names after) where
  drop_more : drop n next ≡ drop n now ++ drop m next
  drop_more = ap (drop n) (behind m now next whole front) ∙ drop-append-le n now (drop m next) (omega (arith, few, whole))

  names_more : after ≡ names ++ drop (length names) after
  names_more = behind (length names) names after refl names_front

  pub seen_more : AreNamed names (drop n now) → map (entry_seen after) (drop n next) ≡ map (entry_seen names) (drop n now) ++ map (entry_seen after) (drop m next)
  seen_more h =
      let still = names_grown names (drop (length names) after) (drop n now) h in
      ap (map (entry_seen after)) drop_more ∙ map-append (entry_seen after) (drop n now) (drop m next)
      ∙ ap (λ ls. ls ++ map (entry_seen after) (drop m next)) (ap (λ ns. map (entry_seen ns) (drop n now)) names_more ∙ still)

  pub named_more : AreNamed names (drop n now) → AreNamed after (drop m next) → AreNamed after (drop n next)
  named_more old new = λ l i. elim (In-cases l (drop n now) (drop m next) (rw drop_more at i)) [
    | inl before ↦ omega (arith, old l before, ap length names_more, length-append names (drop (length names) after))
    | inr last ↦ new l last
  ]

-- one entry more is what comes behind
pub last_is : (n : ℕ) (es : List DirEntry) (e : DirEntry) → n ≡ length es → drop n (es ++ e ∷ []) ≡ e ∷ []
last_is n es e h = ap (λ m. drop m (es ++ e ∷ [])) h ∙ drop-append_seam es (e ∷ [])

-- a front of a front
pub front_trans : {X : Type 0} (first now next : List X) → IsFront first now → IsFront now next → IsFront first next
front_trans first now next h g =
    let a = behind (length first) first now refl h in
    let c = behind (length now) now next refl g in
    let whole : next ≡ first ++ (drop (length first) now ++ drop (length now) next) = c ∙ ap (λ x. x ++ drop (length now) next) a ∙ append_assoc first (drop (length first) now) (drop (length now) next) in
    ap (take (length first)) whole ∙ take-append-le (length first) first (drop (length first) now ++ drop (length now) next) (omega arith) ∙ take_all (length first) first (omega arith)

-- ---- one entry more

pub front_push : {X : Type 0} (xs : List X) (x : X) → IsFront xs (xs ++ x ∷ [])
front_push xs x = take-append-le (length xs) xs (x ∷ []) (omega arith) ∙ take_all (length xs) xs (omega arith)

-- it is seen behind those that were appended before it, and has a name
module _ (n m : ℕ) (now : List DirEntry) (names after : List (List ℕ)) (e : DirEntry) (few : n ≤ m) (whole : m ≡ length now) (names_front : IsFront names after) (named : AreNamed names (drop n now)) where
  front : take m (now ++ e ∷ []) ≡ now
  front = take-append-le m now (e ∷ []) (omega (arith, whole)) ∙ take_all m now (omega (arith, whole))

  pub entry_added : map (entry_seen after) (drop n (now ++ e ∷ [])) ≡ map (entry_seen names) (drop n now) ++ entry_seen after e ∷ []
  entry_added =
      seen_more n m now (now ++ e ∷ []) names after few whole front names_front named
      ∙ ap (λ es. map (entry_seen names) (drop n now) ++ map (entry_seen after) es) (last_is m now e whole)

  pub name_added : e.name < length after → AreNamed after (drop n (now ++ e ∷ []))
  name_added has = named_more n m now (now ++ e ∷ []) names after few whole front names_front named
      (λ l i. elim (rw (last_is m now e whole) at i) [
        | inl same ↦ rw same has
        | inr none ↦ absurd none
      ])

-- the next of those that are read
pub read_more : (es : List EntryRead) (i : ℕ) (x : EntryRead) → i < length es → x ≡ get_or es i x → map listed_seen (take (i + 1) es) ≡ map listed_seen (take i es) ++ listed_seen x ∷ []
read_more es i x h e =
    ap (map listed_seen) (take_more es i x h) ∙ map-append listed_seen (take i es) (get_or es i x ∷ [])
    ∙ ap (λ y. map listed_seen (take i es) ++ listed_seen y ∷ []) (sym e)
