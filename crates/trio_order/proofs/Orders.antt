-- Calls of all libraries along a log, in one order: at each entry first the calls that make none, library by library, and then the
-- call that makes it.
use Rattle.trio_order.proofs.Words.{if◌then◌else◌, ◌++◌, ◌==◌, ◌∙◌, ◌∷◌, ◌≡◌, ◌≢◌, ◌≤◌, ◌⊎◌, Bool, Call, Entry, In, Kept, Known, LibNo, List, Move, None, Option, ReplaysFrom, Some, State, [], all_parts, ap, append-nil, arith, entries_told, eq-eqb, filter-append, inl, inr, known, known_after, length, made_by, maker, map, moves_of, option_to_list, refl, step_kept, steps_are_known, subst, sym, ℕ}
use Rattle.std.proofs.Common.{zero, suc}
use Rattle.std.specs.List.{filter}
use Rattle.std.proofs.lemmas.Bool.{cases_eq, cases_lt, ne_eqb}
use Rattle.std.proofs.lemmas.List.{map-append}
use Rattle.std.proofs.lemmas.List.Concat.{flat_map-append}
use Rattle.trio_rights.specs.declared.rights.Creds.{Creds}
use Rattle.trio_lists.proofs.Members.{In-cases}
use Rattle.trio_state.specs.Run.{start}
use Rattle.trio_state.specs.State.{IsLibrary}
use Rattle.trio_laws.specs.history.Entries as entries
use Rattle.trio_laws.proofs.Runs.{start_kept}
use Rattle.trio_laws.proofs.history.Grows.{step_creds}
use Rattle.trio_order.specs.Order.{InOrder, Happening, calls_by, entries_in, moves_in}
use Rattle.trio_order.specs.OrderLaws.{ThreadsAreOrder}
use Rattle.trio_order.proofs.Redone.{Redone, Runs, redone}
use Rattle.trio_order.proofs.Courses.{AreQuiet, Course, Cut, Fact, Its, NotIts, Own, all_quiet, along_course, cut, none_more, whose}

-- ---- calls in an order

pub calls_both : (lib : LibNo) (order more : List Happening) → calls_by lib (order ++ more) ≡ calls_by lib order ++ calls_by lib more
calls_both lib order more =
    let mine : Happening → Bool = λ p. p.lib.0 == lib.0 in
    ap (map (λ (p : Happening). p.call)) (filter-append mine order more) ∙ map-append (λ (p : Happening). p.call) (filter mine order) (filter mine more)

calls_own : (lib : LibNo) (p : Happening) (order : List Happening) → p.lib.0 ≡ lib.0 → calls_by lib (p ∷ order) ≡ p.call ∷ calls_by lib order
calls_own lib p order e =
    let rest : List Happening = filter (λ (q : Happening). q.lib.0 == lib.0) order in
    ap (λ (b : Bool). map (λ (q : Happening). q.call) (if b then p ∷ rest else rest)) (eq-eqb p.lib.0 lib.0 e)

calls_else : (lib : LibNo) (p : Happening) (order : List Happening) → p.lib.0 ≢ lib.0 → calls_by lib (p ∷ order) ≡ calls_by lib order
calls_else lib p order apart =
    let rest : List Happening = filter (λ (q : Happening). q.lib.0 == lib.0) order in
    ap (λ (b : Bool). map (λ (q : Happening). q.call) (if b then p ∷ rest else rest)) (ne_eqb p.lib.0 lib.0 apart)

-- its entries lead from the state that it finds to the one that it leaves
abbrev Replays : Happening → Type 0
Replays h = ReplaysFrom h.before (entries_told h.before h.lib h.call.ask h.call.told) h.after

-- from s these calls make these entries, and leave t
record Goes (s : State) (order : List Happening) (log : List Entry) (t : State) : Type 0 where
  happen : InOrder s order t
  entries : entries_in order ≡ log
  replay : (h : Happening) → In h order → Replays h
  runs : Runs s (moves_in order) t

goes_none : (s : State) → Goes s [] [] s
goes_none s = record { happen = refl; entries = refl; replay = λ h i. absurd i; runs = record { trace = tt; last = refl } }

pub runs_on : (s middle t : State) (moves more : List Move) → Runs s moves middle → Runs middle more t → Runs s (moves ++ more) t
runs_on s middle t [] more h k = subst (λ x. Runs x more t) (sym h.last) k
runs_on s middle t (m ∷ moves) more h k =
    let all = runs_on m.after middle t moves more (record { trace = h.trace.3; last = h.last }) k in
    record { trace = (h.trace.0, h.trace.1, h.trace.2, all.trace); last = all.last }

in_order_on : (s middle t : State) (order more : List Happening) → InOrder s order middle → InOrder middle more t → InOrder s (order ++ more) t
in_order_on s middle t [] more h k = subst (λ x. InOrder x more t) h k
in_order_on s middle t (p ∷ order) more h k = (h.0, h.1, in_order_on p.after middle t order more h.2 k)

goes_on : (s middle t : State) (order more : List Happening) (log later : List Entry) → Goes s order log middle → Goes middle more later t → Goes s (order ++ more) (log ++ later) t
goes_on s middle t order more log later a b = record {
  happen = in_order_on s middle t order more a.happen b.happen;
  entries = flat_map-append (λ (p : Happening). entries_told p.before p.lib p.call.ask p.call.told) order more ∙ ap (λ l. l ++ entries_in more) a.entries ∙ ap (λ l. log ++ l) b.entries;
  replay = λ h i. elim (In-cases h order more i) [ inl j ↦ a.replay h j | inr j ↦ b.replay h j ];
  runs = subst (λ ms. Runs s ms t) (sym (flat_map-append (λ (p : Happening). moves_of p.lib p.before p.call.ask p.call.told p.after) order more)) (runs_on s middle t (moves_in order) (moves_in more) a.runs b.runs);
}

-- ---- one call

abbrev placed : LibNo → Call → State → State → Happening
placed lib c s t = record { lib = lib; call = c; before = s; after = t }

one_goes : (lib : LibNo) (c : Call) (o : Option Entry) (s t : State) → Redone s lib c.ask c.told o t → ReplaysFrom s (option_to_list o) t → Goes s (placed lib c s t ∷ []) (option_to_list o) t
one_goes lib c o s t r led = record {
  happen = (refl, r.happens, refl);
  entries = append-nil (entries_told s lib c.ask c.told) ∙ r.entries;
  replay = λ h i.
      elim i [
        | inl is ↦ subst Replays (sym is) (subst (λ l. ReplaysFrom s l t) (sym r.entries) led)
        | inr none ↦ absurd none
      ];
  runs = subst (λ ms. Runs s ms t) (sym (append-nil (moves_of lib s c.ask c.told t))) r.runs;
}

module _ (k : Known) (s : State) (kept : Kept s) (is : known s ≡ k) where
  fact_goes : (lib : LibNo) (c : Call) (o : Option Entry) (t : State) → Fact k lib c o → ReplaysFrom s (option_to_list o) t → Goes s (placed lib c s t ∷ []) (option_to_list o) t
  fact_goes lib c o t f r =
      one_goes lib c o s t
      (redone f.before f.after s t lib c.ask c.told o (record { kept = f.kept; kept' = kept; same = f.found ∙ sym is }) f.did f.simple f.entry f.left r) r

-- ---- calls that make no entry

abbrev libno : ℕ → LibNo
libno n = record { 0 = n }

-- some of one library, and of all up to a number
abbrev line : State → LibNo → List Call → List Happening
line s lib cs = map (λ c. placed lib c s s) cs

abbrev turn : State → (LibNo → List Call) → ℕ → List Happening
turn s now zero = []
turn s now (suc n) = turn s now n ++ line s (libno (suc n)) (now (libno (suc n)))

module _ (k : Known) (s : State) (kept : Kept s) (is : known s ≡ k) where
  line_goes : (lib : LibNo) (cs : List Call) → AreQuiet k lib cs → Goes s (line s lib cs) [] s
  line_goes lib [] q = goes_none s
  line_goes lib (c ∷ cs) q = goes_on s s s (placed lib c s s ∷ []) (line s lib cs) [] [] (fact_goes k s kept is lib c None s q.0 refl) (line_goes lib cs q.1)

  turn_goes : (now : LibNo → List Call) → ((lib : LibNo) → AreQuiet k lib (now lib)) → (n : ℕ) → Goes s (turn s now n) [] s
  turn_goes now q zero = goes_none s
  turn_goes now q (suc n) = goes_on s s s (turn s now n) (line s (libno (suc n)) (now (libno (suc n)))) [] [] (turn_goes now q n) (line_goes (libno (suc n)) (now (libno (suc n))) (q (libno (suc n))))

line_own : (s : State) (lib : LibNo) (cs : List Call) → calls_by lib (line s lib cs) ≡ cs
line_own s lib [] = refl
line_own s lib (c ∷ cs) = calls_own lib (placed lib c s s) (line s lib cs) refl ∙ ap (λ l. c ∷ l) (line_own s lib cs)

line_else : (s : State) (lib m : LibNo) (cs : List Call) → m.0 ≢ lib.0 → calls_by lib (line s m cs) ≡ []
line_else s lib m [] apart = refl
line_else s lib m (c ∷ cs) apart = calls_else lib (placed m c s s) (line s m cs) apart ∙ line_else s lib m cs apart

record Turned (s : State) (now : LibNo → List Call) (n : ℕ) : Type 0 where
  done : (lib : LibNo) → 1 ≤ lib.0 → lib.0 ≤ n → calls_by lib (turn s now n) ≡ now lib
  not_yet : (lib : LibNo) → (1 ≤ lib.0 → lib.0 ≤ n → ⊥) → calls_by lib (turn s now n) ≡ []

turned : (s : State) (now : LibNo → List Call) (n : ℕ) → Turned s now n
turned s now zero = record { done = λ lib a b. absurd (omega (arith, a, b)); not_yet = λ lib out. refl }
turned s now (suc n) =
    let r = turned s now n in
    let m : LibNo = libno (suc n) in
    let parts : (lib : LibNo) → calls_by lib (turn s now (suc n)) ≡ calls_by lib (turn s now n) ++ calls_by lib (line s m (now m)) = λ lib. calls_both lib (turn s now n) (line s m (now m)) in
    record {
      done = λ lib a b.
          elim (cases_eq lib.0 (suc n)) [
            | inl e ↦
                let same : lib ≡ m = ap libno e in
                parts lib ∙ ap (λ l. l ++ calls_by lib (line s m (now m))) (r.not_yet lib (λ x y. omega (arith, e, y)))
                ∙ subst (λ (x : LibNo). calls_by x (line s m (now m)) ≡ now x) (sym same) (line_own s m (now m))
            | inr apart ↦
                parts lib ∙ ap (λ l. l ++ calls_by lib (line s m (now m))) (r.done lib a (omega (arith, b, apart)))
                ∙ ap (λ l. now lib ++ l) (line_else s lib m (now m) (λ e. apart (sym e))) ∙ append-nil (now lib)
          ];
      not_yet = λ lib out.
          parts lib ∙ ap (λ l. l ++ calls_by lib (line s m (now m))) (r.not_yet lib (λ x y. out x (omega (arith, y))))
          ∙ line_else s lib m (now m) (λ e. out (omega (arith, e)) (omega (arith, e)));
    }

-- ---- all calls along a log

-- the library has one of the numbers from 1 to n
abbrev IsAmong : ℕ → LibNo → Type 0
IsAmong n lib = (1 ≤ lib.0) × (lib.0 ≤ n)

among : (n : ℕ) (lib : LibNo) → IsAmong n lib ⊎ (IsAmong n lib → ⊥)
among n lib =
    elim (cases_lt lib.0 1) [
      | inl low ↦ inr (λ is. (let one = is.0 in omega (arith, low, one)))
      | inr up ↦ elim (cases_lt n lib.0) [
        | inl high ↦ inr (λ is. (let most = is.1 in omega (arith, high, most)))
        | inr small ↦ inl (up, small)
      ]
    ]

none_left : (xs ys : List Call) → xs ++ ys ≡ [] → (xs ≡ []) × (ys ≡ [])
none_left [] ys e = (refl, e)
none_left (x ∷ xs) ys e = absurd (cc e)

-- of a turn each library has its own
turn_own : (s : State) (now : LibNo → List Call) (n : ℕ) → ((lib : LibNo) → (IsAmong n lib → ⊥) → now lib ≡ []) → (lib : LibNo) → calls_by lib (turn s now n) ≡ now lib
turn_own s now n past lib =
    elim (among n lib) [
      | inl is ↦ (turned s now n).done lib is.0 is.1
      | inr out ↦ (turned s now n).not_yet lib (λ a b. out (a, b)) ∙ sym (past lib out)
    ]

-- the call that makes an entry, of its library, and that it is the others' none
record Mine (k : Known) (e : Entry) (its : LibNo → List Call) : Type 0 where
  call : Call
  fact : Fact k (libno (maker e)) call (Some e)
  own : (s t : State) (lib : LibNo) → calls_by lib (placed (libno (maker e)) call s t ∷ []) ≡ its lib

mine : (k : Known) (e : Entry) (its : LibNo → List Call) → ((lib : LibNo) → Own k lib e (its lib)) → Mine k e its
mine k e its own = by (its (libno (maker e))) refl (own (libno (maker e)))
  where
    elsewhere : (lib : LibNo) → (maker e ≢ lib.0) → (xs : List Call) → Own k lib e xs → xs ≡ []
    elsewhere lib apart xs (Its c same is fact) = absurd (apart same)
    elsewhere lib apart xs (NotIts other is) = is

    by : (xs : List Call) → its (libno (maker e)) ≡ xs → Own k (libno (maker e)) e xs → Mine k e its
    by xs at (NotIts other is) = absurd (other refl)
    by xs at (Its c same is fact) = record {
      call = c;
      fact = fact;
      own = λ s t lib.
          elim (cases_eq (maker e) lib.0) [
            | inl here ↦
                let p : libno (maker e) ≡ lib = ap libno here in
                subst (λ (x : LibNo). calls_by x (placed (libno (maker e)) c s t ∷ []) ≡ its x) p
                (calls_own (libno (maker e)) (placed (libno (maker e)) c s t) [] refl ∙ sym (at ∙ is))
            | inr apart ↦ calls_else lib (placed (libno (maker e)) c s t) [] apart ∙ sym (elsewhere lib apart (its lib) (own lib))
          ];
    }

record Found (c : LibNo → List Call) (log : List Entry) (s t : State) : Type 0 where
  order : List Happening
  goes : Goes s order log t
  own : (lib : LibNo) → calls_by lib order ≡ c lib

found : (n : ℕ) (log : List Entry) (k : Known) (s t : State) (c : LibNo → List Call) → Kept s → known s ≡ k → ReplaysFrom s log t
    → ((lib : LibNo) → Course k lib log (c lib)) → ((lib : LibNo) → (IsAmong n lib → ⊥) → c lib ≡ []) → Found c log s t
found n [] k s t c kept is r along past =
    let q = turn_goes k s kept is c (λ lib. all_quiet k lib (c lib) (along lib)) n in
    record {
      order = turn s c n;
      goes = subst (Goes s (turn s c n) []) (sym r) q;
      own = turn_own s c n past;
    }
found n (e ∷ log) k s t c kept is r along past =
    let cuts : (lib : LibNo) → Cut k lib e log (c lib) = λ lib. cut k lib e log (c lib) (along lib) in
    let now : LibNo → List Call = λ lib. (cuts lib).now in
    let its : LibNo → List Call = λ lib. (cuts lib).its in
    let tail : LibNo → List Call = λ lib. (cuts lib).tail in
    let none : (lib : LibNo) → (IsAmong n lib → ⊥) → (now lib ≡ []) × (its lib ++ tail lib ≡ []) = λ lib out. none_left (now lib) (its lib ++ tail lib) (sym (cuts lib).parts ∙ past lib out) in
    let mid : State = r.0 in
    let m = mine k e its (λ lib. (cuts lib).own) in
    let p : Happening = placed (libno (maker e)) m.call s mid in
    let q : List Happening = turn s now n in
    let rest = found n log (known_after k (entries.event_of e) (entries.answer_of e)) mid t tail
    (step_kept s mid (entries.event_of e) (entries.answer_of e) kept r.2 r.3)
    (steps_are_known s (entries.event_of e) (entries.answer_of e) mid kept r.3 ∙ ap (λ (x : Known). known_after x (entries.event_of e) (entries.answer_of e)) is)
    r.4 (λ lib. (cuts lib).later) (λ lib out. (none_left (its lib) (tail lib) (none lib out).1).1) in
    let one : Goes s (p ∷ []) (e ∷ []) mid = fact_goes k s kept is (libno (maker e)) m.call (Some e) mid m.fact (mid, r.1, r.2, r.3, refl) in
    record {
      order = q ++ (p ∷ rest.order);
      goes = goes_on s s t q (p ∷ rest.order) [] (e ∷ log) (turn_goes k s kept is now (λ lib. (cuts lib).quiet) n) (goes_on s mid t (p ∷ []) rest.order (e ∷ []) log one rest.goes);
      own = λ lib.
          calls_both lib q (p ∷ rest.order)
          ∙ ap (λ l. l ++ calls_by lib (p ∷ rest.order)) (turn_own s now n (λ x out. (none x out).0) lib)
          ∙ ap (λ l. now lib ++ l) (calls_both lib (p ∷ []) rest.order ∙ ap (λ l. l ++ calls_by lib rest.order) (m.own s mid lib) ∙ ap (λ l. its lib ++ l) (rest.own lib))
          ∙ sym (cuts lib).parts;
    }

-- ---- the law

-- a log has no entry of a number that is no library
none_through : (s : State) (log : List Entry) (t : State) (l : ℕ) → ReplaysFrom s log t → (IsLibrary s.creds l → ⊥) → made_by l log ≡ []
none_through s [] t l r out = refl
none_through s (e ∷ es) t l r out =
    none_more l e es (λ same. out (subst (IsLibrary s.creds) (whose e ∙ same) r.1))
    (none_through r.0 es t l r.4 (subst (λ (cs : List Creds). IsLibrary cs l → ⊥) (sym (step_creds s (entries.event_of e) (entries.answer_of e) r.0 r.3)) out))

-- a library's calls, and none of a number that is no library
abbrev chosen : {A : Type 0} → A ⊎ (A → ⊥) → List Call → List Call
chosen (inl is) calls = calls
chosen (inr out) calls = []

pub threads_are_order : ThreadsAreOrder
threads_are_order image creds courses log last fit verifies whole r along =
    let first : State = start image creds in
    let kept = start_kept image creds fit verifies whole in
    let n : ℕ = length creds in
    let c : LibNo → List Call = λ lib. chosen (among n lib) (all_parts (courses lib)) in
    let f = found n log (known first) first last c kept refl r (λ lib. course lib (among n lib)) (λ lib out. others (among n lib) (all_parts (courses lib)) out) in
    record {
      order = f.order;
      own = λ lib is. f.own lib ∙ its (among n lib) (all_parts (courses lib)) is;
      no_other = λ lib out. f.own lib ∙ others (among n lib) (all_parts (courses lib)) out;
      happen = f.goes.happen;
      entries = f.goes.entries;
      replay = f.goes.replay;
      trace = f.goes.runs.trace;
      ends = f.goes.runs.last;
    }
  where
    its : {A : Type 0} (d : A ⊎ (A → ⊥)) (calls : List Call) → A → chosen d calls ≡ calls
    its (inl is) calls a = refl
    its (inr out) calls a = absurd (out a)

    others : {A : Type 0} (d : A ⊎ (A → ⊥)) (calls : List Call) → (A → ⊥) → chosen d calls ≡ []
    others (inl is) calls out = absurd (out is)
    others (inr not) calls out = refl

    course : (lib : LibNo) (d : IsAmong (length creds) lib ⊎ (IsAmong (length creds) lib → ⊥)) → Course (known (start image creds)) lib log (chosen d (all_parts (courses lib)))
    course lib (inl is) = along_course (start image creds) lib [] log (courses lib) (start_kept image creds fit verifies whole) (along lib is)
    course lib (inr out) = none_through (start image creds) log last lib.0 r out
