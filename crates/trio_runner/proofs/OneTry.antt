-- Two tries of one call from alike sessions, on controllers of which the same is known, ask and are told the same.
use Rattle.trio_runner.proofs.Words.{◌++◌, ◌∙◌, ◌∷◌, ◌≡◌, ◌≢◌, Allot, Ask, AskedBy, Bool, Busy, BusyGrant, Call, Calls, CtlAnswer, Denied, Done, GiveBack, Given, Grant, GrantFault, Happens, In, IsAccepted, IsGiven, IsRefused, Judged, Lease, Lent, LibNo, List, ModeSet, NoFreeInodes, NoFreePages, NoMemory, None, NotGiven, NotJudged, NotLent, NotModeSet, NotSettled, Noted, Notes, Option, Outcome, Parted, Release, ReleaseAnswer, Replied, Reply, Row, SessionSeen, SetMode, Settle, Settled, Some, State, Step, Told, TryEnds, [], all_back, allots, answer_of, ap, append-nil, cond, event_of, false, free_numbers, free_pages, grant_fault, granted_to, happens_creds, inl, inr, known, lacks_room, length, logged, ltb, map, mode_fault, nodes_of, out_of, refl, row_at, same_event_same_answer, subst, sym, take, took, true, with_allotted, with_lease, ℕ}
use Rattle.trio_nodes.specs.declared.call.Reply.TheVariants as reply
use Rattle.trio_state.specs.Step.{Comes, Outcome as StepOutcome}
use Rattle.trio_state.specs.Step as step
use Rattle.trio_runner.proofs.CallLeaves.{Fits, call_leaves}
use Rattle.trio_runner.proofs.Moves.{Stands, call_stands}
use Rattle.trio_runner.proofs.SameAnswers.{Alike, Lends, Same, BothRefused, answers_alike, lends_same, no_lease}
use Rattle.trio_runner.proofs.SameNodes.{HasOut, StandsTrue, allot_stays, call_true, grant_stays, has_allotted, has_lease, has_same}
use Rattle.trio_runner.proofs.Sessions.{no_mode}

-- ---- what a try asks and is told

-- a grant or an allotment, with an answer of its own
abbrev pub Gets : Ask → Told → Type 0
Gets (Grant ino kind) (Lent lease) = Unit {0}
Gets (Grant ino kind) (NotLent fault) = Unit {0}
Gets (Allot pages numbers) (Given ps ns) = Unit {0}
Gets (Allot pages numbers) (NotGiven fault) = Unit {0}
Gets ask told = ⊥

pub gets_fits : (ask : Ask) (told : Told) → Gets ask told → Fits ask told
gets_fits (Grant ino kind) (Lent lease) g = tt
gets_fits (Grant ino kind) (NotLent fault) g = tt
gets_fits (Allot pages numbers) (Given ps ns) g = tt
gets_fits (Allot pages numbers) (NotGiven fault) g = tt
gets_fits ask told g = absurd g

-- a lease is lent to a grant alone
pub lent_gets : (s : State) (lib : LibNo) (ask : Ask) (lease : Lease) (s' : State) → Happens s lib ask (Lent lease) s' → Gets ask (Lent lease)
lent_gets s lib (Grant ino kind) lease s' h = tt
lent_gets s lib (Allot pages numbers) lease s' h = elim h.is_step [ inl c ↦ by (ltb (length (free_pages s)) pages) (ltb (length (free_numbers s)) numbers) c | inr none ↦ absurd (cc (none.1)) ]
  where
    outcome : Bool → Bool → StepOutcome
    outcome a b =
        cond a (record { answer = step.NoPages pages (length (free_pages s)); after = logged s })
        (cond b (record { answer = step.NoInodes numbers (length (free_numbers s)); after = logged s })
        (record { answer = step.Given (take pages (free_pages s)) (take numbers (free_numbers s)); after = allots s lib.0 (take pages (free_pages s)) (take numbers (free_numbers s)) }))

    by : (a b : Bool) → Comes (outcome a b) (answer_of (Lent lease)) s' → ⊥
    by true b c = cc (c.0)
    by false true c = cc (c.0)
    by false false c = cc (c.0)
lent_gets s lib (GiveBack back) lease s' h = elim h.is_step [ inl d ↦ absurd (cc (d.0)) | inr n ↦ absurd (cc (n.1)) ]
lent_gets s lib (Release parcel) lease s' h = by h.is_step
  where
    by : Step s (event_of lib (Release parcel)) (answer_of (Lent lease)) s' → ⊥
    by (inl (Parted n p a e)) = cc a
    by (inl (IsAccepted p y a e)) = cc a
    by (inl (IsRefused p y w a t e)) = cc a
    by (inr n) = cc (n.1)
lent_gets s lib (Settle parcel back calls) lease s' h = elim h.is_step [ inl d ↦ absurd (cc (d.0)) | inr n ↦ absurd (cc (n.1)) ]
lent_gets s lib (SetMode ino mode back k) lease s' h =
    let t : State = all_back s lib back in
    elim h.is_step [ inl d ↦ absurd (no_mode t ino mode (mode_fault t lib.0 ino mode (row_at t.home ino)) _ (λ e. cc e) (λ f e. cc e) d.0) | inr n ↦ absurd (cc (n.1)) ]

-- pages and numbers are given to an allotment alone
given_gets : (s : State) (lib : LibNo) (ask : Ask) (ps ns : List ℕ) (s' : State) → Happens s lib ask (Given ps ns) s' → Gets ask (Given ps ns)
given_gets s lib (Allot pages numbers) ps ns s' h = tt
given_gets s lib (Grant ino kind) ps ns s' h = elim h.is_step [ inl c ↦ by (grant_fault s lib.0 ino kind) (row_at s.home ino) c | inr none ↦ absurd (cc (none.1)) ]
  where
    by : (f : Option GrantFault) (o : Option Row) → Comes (granted_to s lib.0 ino kind f o) (answer_of (Given ps ns)) s' → ⊥
    by (Some f) o c = cc (c.0)
    by None None c = cc (c.0)
    by None (Some r) c = cc (c.0)
given_gets s lib (GiveBack back) ps ns s' h = elim h.is_step [ inl d ↦ absurd (cc (d.0)) | inr n ↦ absurd (cc (n.1)) ]
given_gets s lib (Release parcel) ps ns s' h = by h.is_step
  where
    by : Step s (event_of lib (Release parcel)) (answer_of (Given ps ns)) s' → ⊥
    by (inl (Parted n p a e)) = cc a
    by (inl (IsAccepted p y a e)) = cc a
    by (inl (IsRefused p y w a t e)) = cc a
    by (inr n) = cc (n.1)
given_gets s lib (Settle parcel back calls) ps ns s' h = elim h.is_step [ inl d ↦ absurd (cc (d.0)) | inr n ↦ absurd (cc (n.1)) ]
given_gets s lib (SetMode ino mode back k) ps ns s' h =
    let t : State = all_back s lib back in
    elim h.is_step [ inl d ↦ absurd (no_mode t ino mode (mode_fault t lib.0 ino mode (row_at t.home ino)) _ (λ e. cc e) (λ f e. cc e) d.0) | inr n ↦ absurd (cc (n.1)) ]

pub gets_given : (s : State) (lib : LibNo) (c : Call) (s' : State) → IsGiven c → Happens s lib c.ask c.told s' → Gets c.ask c.told
gets_given s lib c s' (inl l) h = subst (Gets c.ask) (sym l.1) (lent_gets s lib c.ask l.0 s' (subst (λ t. Happens s lib c.ask t s') l.1 h))
gets_given s lib c s' (inr g) h = subst (Gets c.ask) (sym g.2) (given_gets s lib c.ask g.0 g.1 s' (subst (λ t. Happens s lib c.ask t s') g.2 h))

given_some : (c : Call) → IsGiven c → answer_of c.told ≢ step.NoMemory
given_some c (inl l) e = let wrong : answer_of (Lent l.0) ≡ step.NoMemory = ap answer_of (sym l.1) ∙ e in cc wrong
given_some c (inr g) e = let wrong : answer_of (Given g.0 g.1) ≡ step.NoMemory = ap answer_of (sym g.2) ∙ e in cc wrong

not_judged : (ask : Ask) (answer : ReleaseAnswer) → Gets ask (Judged answer) → ⊥
not_judged (Grant ino kind) answer g = g
not_judged (Allot pages numbers) answer g = g
not_judged (GiveBack back) answer g = g
not_judged (Release parcel) answer g = g
not_judged (Settle parcel back calls) answer g = g
not_judged (SetMode ino mode back k) answer g = g

gets_same : (ask : Ask) (a b : Told) → Gets ask a → Alike a b → a ≡ b
gets_same ask a b g (Same told) = refl
gets_same ask a b g (BothRefused rule i p s i' p' s') = absurd (not_judged ask _ g)

allot_lends : (pages numbers : ℕ) (a : Told) → Gets (Allot pages numbers) a → Lends no_lease a
allot_lends pages numbers (Given ps ns) g = tt
allot_lends pages numbers (NotGiven fault) g = tt
allot_lends pages numbers a g = absurd g

-- one call from both is told the same
record OneAsk (a b : Told) (s t : State) : Type 0 where
  told_same : a ≡ b
  known_same : known s ≡ known t

one_ask : (lib : LibNo) (s t : State) (ask : Ask) (a b : Told) (s' t' : State) → Stands s → Stands t → known s ≡ known t → Gets ask a → Gets ask b → answer_of a ≢ step.NoMemory → answer_of b ≢ step.NoMemory → Happens s lib ask a s' → Happens t lib ask b t' → OneAsk a b s' t'
one_ask lib s t (Grant ino kind) a b s' t' hs ht same ga gb some some' x y =
    let r = same_event_same_answer s t (event_of lib (Grant ino kind)) (answer_of a) (answer_of b) s' t' hs.kept ht.kept same x.is_step y.is_step some some' in
    let l = lends_same s t lib same ino kind a b x.lease y.lease in
    record { told_same = gets_same (Grant ino kind) a b ga (answers_alike l.0 a b l.1 l.2 some some' r.0); known_same = r.1 }
one_ask lib s t (Allot pages numbers) a b s' t' hs ht same ga gb some some' x y =
    let r = same_event_same_answer s t (event_of lib (Allot pages numbers)) (answer_of a) (answer_of b) s' t' hs.kept ht.kept same x.is_step y.is_step some some' in
    record { told_same = gets_same (Allot pages numbers) a b ga (answers_alike no_lease a b (allot_lends pages numbers a ga) (allot_lends pages numbers b gb) some some' r.0); known_same = r.1 }
one_ask lib s t (GiveBack back) a b s' t' hs ht same ga gb some some' x y = absurd ga
one_ask lib s t (Release parcel) a b s' t' hs ht same ga gb some some' x y = absurd ga
one_ask lib s t (Settle parcel back calls) a b s' t' hs ht same ga gb some some' x y = absurd ga
one_ask lib s t (SetMode ino mode back k) a b s' t' hs ht same ga gb some some' x y = absurd ga

-- ---- how a try ends

-- how it ends by its last call, where that wasn't given
abbrev pub outcome_told : Told → Option Outcome
outcome_told (NotLent (BusyGrant holder)) = Some (Busy holder)
outcome_told (NotLent (Denied n)) = Some (Replied reply.Denied)
outcome_told (NotGiven (NoFreePages wanted free)) = Some (Replied (reply.NoSpace wanted free))
outcome_told (NotGiven (NoFreeInodes wanted free)) = Some (Replied (reply.NoInodes wanted free))
outcome_told told = None

-- an end but want of memory: without a call more, or by one that wasn't given
pub data Final : Outcome → List Call → Type 0 where
  NoneLast : (answer : Reply) → lacks_room answer ≡ false → Final (Replied answer) []
  OneLast : (end : Outcome) (c : Call) → Gets c.ask c.told → answer_of c.told ≢ step.NoMemory → outcome_told c.told ≡ Some end → Final end (c ∷ [])

pub final_of : (end : Outcome) (last : List Call) → end ≢ NoMemory → TryEnds end last → Final end last
final_of NoMemory last some e = absurd (some refl)
final_of (Busy holder) last some e = subst (Final (Busy holder)) (sym e.2) (OneLast (Busy holder) _ tt (λ w. cc w) refl)
final_of (Replied (reply.NoSpace wanted free)) last some e = subst (Final (Replied (reply.NoSpace wanted free))) (sym e.1) (OneLast _ _ tt (λ w. cc w) refl)
final_of (Replied (reply.NoInodes wanted free)) last some e = subst (Final (Replied (reply.NoInodes wanted free))) (sym e.1) (OneLast _ _ tt (λ w. cc w) refl)
final_of (Replied reply.Denied) last some (inl e) = subst (Final (Replied reply.Denied)) (sym e) (NoneLast reply.Denied refl)
final_of (Replied reply.Denied) last some (inr e) =
    subst (Final (Replied reply.Denied)) (sym (e.1 ∙ ap (λ (c : Call). c ∷ []) e.2.1)) (OneLast (Replied reply.Denied) _ tt (λ w. cc w) refl)
final_of (Replied (reply.Ok answer)) last some e = subst (Final (Replied (reply.Ok answer))) (sym e) (NoneLast _ refl)
final_of (Replied reply.NotFound) last some e = subst (Final (Replied reply.NotFound)) (sym e) (NoneLast _ refl)
final_of (Replied reply.Exists) last some e = subst (Final (Replied reply.Exists)) (sym e) (NoneLast _ refl)
final_of (Replied reply.NotDir) last some e = subst (Final (Replied reply.NotDir)) (sym e) (NoneLast _ refl)
final_of (Replied reply.IsDir) last some e = subst (Final (Replied reply.IsDir)) (sym e) (NoneLast _ refl)
final_of (Replied reply.NotEmpty) last some e = subst (Final (Replied reply.NotEmpty)) (sym e) (NoneLast _ refl)
final_of (Replied reply.IntoItself) last some e = subst (Final (Replied reply.IntoItself)) (sym e) (NoneLast _ refl)
final_of (Replied reply.TooLarge) last some e = subst (Final (Replied reply.TooLarge)) (sym e) (NoneLast _ refl)
final_of (Replied reply.IsLink) last some e = subst (Final (Replied reply.IsLink)) (sym e) (NoneLast _ refl)
final_of (Replied reply.NotLink) last some e = subst (Final (Replied reply.NotLink)) (sym e) (NoneLast _ refl)

-- what is asked is a part of what is to be asked, from its beginning on; all of it where the try is replied
pub record PartOf (end : Outcome) (these wanted : List Ask) : Type 0 where
  pub rest : List Ask
  pub are : wanted ≡ these ++ rest
  pub whole : (answer : Reply) → end ≡ Replied answer → rest ≡ []

pub part_of : (end : Outcome) (these wanted : List Ask) → AskedBy end these wanted → PartOf end these wanted
part_of (Replied answer) these wanted a = record { rest = []; are = a ∙ sym (append-nil these); whole = λ r e. refl }
part_of (Busy holder) these wanted a = record { rest = a.0; are = a.1; whole = λ r e. absurd (cc e) }
part_of NoMemory these wanted a = record { rest = a.0; are = a.1; whole = λ r e. absurd (cc e) }

-- both end the same, but for replies that tell no want of room
pub data SameEnd : Outcome → Outcome → Type 0 where
  EndsSame : (end : Outcome) → SameEnd end end
  BothReplied : (a b : Reply) → lacks_room a ≡ false → lacks_room b ≡ false → SameEnd (Replied a) (Replied b)

-- the same is given to both, they end the same, and the same is known then
pub record OneGoing (g g' : List Call) (end end' : Outcome) (s t : State) : Type 0 where
  pub given_same : g ≡ g'
  pub ends : SameEnd end end'
  pub known_same : known s ≡ known t

abbrev pub asks : List Call → List Ask
asks cs = map (λ (c : Call). c.ask) cs

-- a call that is given ends no try
pub given_goes_on : (c : Call) (end : Outcome) → IsGiven c → outcome_told c.told ≡ Some end → ⊥
given_goes_on c end (inl l) e = let wrong : None ≡ Some end = ap outcome_told (sym l.1) ∙ e in cc wrong
given_goes_on c end (inr g) e = let wrong : None ≡ Some end = ap outcome_told (sym g.2) ∙ e in cc wrong

pub first_same : (a b : Ask) (more others : List Ask) → a ∷ more ≡ b ∷ others → a ≡ b
first_same a b more others e = cc e

pub rest_same : (a b : Ask) (more others : List Ask) → a ∷ more ≡ b ∷ others → more ≡ others
rest_same a b more others e = cc e

-- the first of what is asked
abbrev first_of : List Ask → Option Ask
first_of [] = None
first_of (a ∷ more) = Some a

none_asked : (b : Ask) (more : List Ask) → more ≡ [] → first_of more ≡ Some b → ⊥
none_asked b more none e = let wrong : None ≡ Some b = sym (ap first_of none) ∙ e in cc wrong

some_same : (a b : Ask) → Some a ≡ Some b → a ≡ b
some_same a b e = cc e

module _ (lib : LibNo) where
  -- the same call from both, with the notes of each
  note_same : (d e : Noted) (c c' : Call) (d' e' : Noted) → Stands d.state → Stands e.state → known d.state ≡ known e.state → c.ask ≡ c'.ask → Gets c.ask c.told → Gets c'.ask c'.told → answer_of c.told ≢ step.NoMemory → answer_of c'.told ≢ step.NoMemory → Notes lib d c.ask c.told d' → Notes lib e c'.ask c'.told e' → OneAsk c.told c'.told d'.state e'.state
  note_same d e c c' d' e' hd he same asked g g' some some' n n' =
      one_ask lib d.state e.state c.ask c.told c'.told d'.state e'.state hd he same g (subst (λ a. Gets a c'.told) (sym asked) g') some some' n.happens
      (subst (λ a. Happens e.state lib a c'.told e'.state) (sym asked) n'.happens)

  ends_one : (d e d' e' : Noted) (l l' : List Call) (end end' : Outcome) (r r' : List Ask) → Stands d.state → Stands e.state → known d.state ≡ known e.state → Final end l → Final end' l'
      → ((answer : Reply) → end ≡ Replied answer → r ≡ []) → ((answer : Reply) → end' ≡ Replied answer → r' ≡ []) → first_of (asks l ++ r) ≡ first_of (asks l' ++ r') → Calls (Notes lib) d l d' → Calls (Notes lib) e l' e' → OneGoing [] [] end end' d'.state e'.state
  ends_one d e d' e' l l' end end' r r' hd he same (NoneLast a q) (NoneLast b q') w w' asked made made' = record {
    given_same = refl;
    ends = BothReplied a b q q';
    known_same = ap (λ (x : Noted). known x.state) made ∙ same ∙ sym (ap (λ (x : Noted). known x.state) made');
  }
  ends_one d e d' e' l l' end end' r r' hd he same (NoneLast a q) (OneLast x c g some told) w w' asked made made' = absurd (none_asked c.ask r (w a refl) asked)
  ends_one d e d' e' l l' end end' r r' hd he same (OneLast x c g some told) (NoneLast b q') w w' asked made made' = absurd (none_asked c.ask r' (w' b refl) (sym asked))
  ends_one d e d' e' l l' end end' r r' hd he same (OneLast x c g some told) (OneLast y c' g' some' told') w w' asked made made' =
      let o = note_same d e c c' made.0 made'.0 hd he same (some_same c.ask c'.ask asked) g g' some some' made.1 made'.1 in
      let ends : Some end ≡ Some end' = sym told ∙ ap outcome_told o.told_same ∙ told' in
      let is : end ≡ end' = cc ends in
      record {
        given_same = refl;
        ends = subst (SameEnd end) is (EndsSame end);
        known_same = ap (λ (z : Noted). known z.state) made.2 ∙ o.known_same ∙ sym (ap (λ (z : Noted). known z.state) made'.2);
      }

  -- one try can't end where the other is given more
  no_more : (d e d' e' : Noted) (l : List Call) (c' : Call) (more : List Call) (end : Outcome) (r : List Ask) → Stands d.state → Stands e.state → known d.state ≡ known e.state → Final end l → IsGiven c'
      → ((answer : Reply) → end ≡ Replied answer → r ≡ []) → first_of (asks l ++ r) ≡ Some c'.ask → Calls (Notes lib) d l d' → Calls (Notes lib) e (c' ∷ more) e' → ⊥
  no_more d e d' e' l c' more end r hd he same (NoneLast a q) given w asked made made' = none_asked c'.ask r (w a refl) asked
  no_more d e d' e' l c' more end r hd he same (OneLast x c g some told) given w asked made made' =
      let o = note_same d e c c' made.0 made'.0 hd he same (some_same c.ask c'.ask asked) g (gets_given e.state lib c' made'.0.state given made'.1.happens) some (given_some c' given) made.1 made'.1 in
      given_goes_on c' end given (ap outcome_told (sym o.told_same) ∙ told)

  pub one_going : (g g' l l' : List Call) (d e d' e' : Noted) (end end' : Outcome) (r r' : List Ask) → Stands d.state → Stands e.state → known d.state ≡ known e.state → ((c : Call) → In c g → IsGiven c) → ((c : Call) → In c g' → IsGiven c) → Final end l → Final end' l'
      → ((answer : Reply) → end ≡ Replied answer → r ≡ []) → ((answer : Reply) → end' ≡ Replied answer → r' ≡ []) → asks (g ++ l) ++ r ≡ asks (g' ++ l') ++ r' → Calls (Notes lib) d (g ++ l) d' → Calls (Notes lib) e (g' ++ l') e' → OneGoing g g' end end' d'.state e'.state
  one_going [] [] l l' d e d' e' end end' r r' hd he same each each' f f' w w' asked made made' = ends_one d e d' e' l l' end end' r r' hd he same f f' w w' (ap first_of asked) made made'
  one_going [] (c' ∷ g') l l' d e d' e' end end' r r' hd he same each each' f f' w w' asked made made' =
      absurd (no_more d e d' e' l c' (g' ++ l') end r hd he same f (each' c' (inl refl)) w (ap first_of asked) made made')
  one_going (c ∷ g) [] l l' d e d' e' end end' r r' hd he same each each' f f' w w' asked made made' =
      absurd (no_more e d e' d' l' c (g ++ l) end' r' he hd (sym same) f' (each c (inl refl)) w' (sym (ap first_of asked)) made' made)
  one_going (c ∷ g) (c' ∷ g') l l' d e d' e' end end' r r' hd he same each each' f f' w w' asked made made' =
      let first = first_same c.ask c'.ask (asks (g ++ l) ++ r) (asks (g' ++ l') ++ r') asked in
      let is = each c (inl refl) in
      let is' = each' c' (inl refl) in
      let o = note_same d e c c' made.0 made'.0 hd he same first (gets_given d.state lib c made.0.state is made.1.happens) (gets_given e.state lib c' made'.0.state is' made'.1.happens) (given_some c is) (given_some c' is') made.1 made'.1 in
      let rest = one_going g g' l l' made.0 made'.0 d' e' end end' r r' (call_stands d.state lib c.ask c.told made.0.state hd made.1.happens) (call_stands e.state lib c'.ask c'.told made'.0.state he made'.1.happens) o.known_same
      (λ x i. each x (inr i)) (λ x i. each' x (inr i)) f f' w w' (rest_same c.ask c'.ask (asks (g ++ l) ++ r) (asks (g' ++ l') ++ r') asked) made.2 made'.2 in
      let call : c ≡ c' = ap (λ a. record { ask = a; told = c.told }) first ∙ ap (λ t. record { ask = c'.ask; told = t }) o.told_same in
      record { given_same = ap (λ x. x ∷ g) call ∙ ap (λ xs. c' ∷ xs) rest.given_same; ends = rest.ends; known_same = rest.known_same }

  -- Two tries that first ask the same go the same way, where what they want then is the same once the same was given to both.
  pub behind_going : (first : List Ask) (g g' l l' : List Call) (d e d' e' : Noted) (end end' : Outcome) (r r' wants wants' : List Ask) → Stands d.state → Stands e.state → known d.state ≡ known e.state → ((c : Call) → In c g → IsGiven c) → ((c : Call) → In c g' → IsGiven c) → Final end l → Final end' l'
      → ((answer : Reply) → end ≡ Replied answer → r ≡ []) → ((answer : Reply) → end' ≡ Replied answer → r' ≡ []) → asks (g ++ l) ++ r ≡ first ++ wants → asks (g' ++ l') ++ r' ≡ first ++ wants'
      → ((p q q' : List Call) → g ≡ p ++ q → g' ≡ p ++ q' → asks (q ++ l) ++ r ≡ wants → asks (q' ++ l') ++ r' ≡ wants' → wants ≡ wants')
      → Calls (Notes lib) d (g ++ l) d' → Calls (Notes lib) e (g' ++ l') e' → OneGoing g g' end end' d'.state e'.state
  behind_going [] g g' l l' d e d' e' end end' r r' wants wants' hd he same each each' f f' w w' asked asked' agree made made' =
      one_going g g' l l' d e d' e' end end' r r' hd he same each each' f f' w w' (asked ∙ agree [] g g' refl refl asked asked' ∙ sym asked') made made'
  behind_going (a ∷ first) [] [] l l' d e d' e' end end' r r' wants wants' hd he same each each' f f' w w' asked asked' agree made made' =
      ends_one d e d' e' l l' end end' r r' hd he same f f' w w' (ap first_of asked ∙ sym (ap first_of asked')) made made'
  behind_going (a ∷ first) [] (c' ∷ g') l l' d e d' e' end end' r r' wants wants' hd he same each each' f f' w w' asked asked' agree made made' =
      absurd (no_more d e d' e' l c' (g' ++ l') end r hd he same f (each' c' (inl refl)) w (ap first_of asked ∙ sym (ap first_of asked')) made made')
  behind_going (a ∷ first) (c ∷ g) [] l l' d e d' e' end end' r r' wants wants' hd he same each each' f f' w w' asked asked' agree made made' =
      absurd (no_more e d e' d' l' c (g ++ l) end' r' he hd (sym same) f' (each c (inl refl)) w' (ap first_of asked' ∙ sym (ap first_of asked)) made' made)
  behind_going (a ∷ first) (c ∷ g) (c' ∷ g') l l' d e d' e' end end' r r' wants wants' hd he same each each' f f' w w' asked asked' agree made made' =
      let one : c.ask ≡ c'.ask = some_same c.ask c'.ask (ap first_of asked ∙ sym (ap first_of asked')) in
      let is = each c (inl refl) in
      let is' = each' c' (inl refl) in
      let o = note_same d e c c' made.0 made'.0 hd he same one (gets_given d.state lib c made.0.state is made.1.happens) (gets_given e.state lib c' made'.0.state is' made'.1.happens) (given_some c is) (given_some c' is') made.1 made'.1 in
      let call : c ≡ c' = ap (λ x. record { ask = x; told = c.told }) one ∙ ap (λ t. record { ask = c'.ask; told = t }) o.told_same in
      let rest = behind_going first g g' l l' made.0 made'.0 d' e' end end' r r' wants wants' (call_stands d.state lib c.ask c.told made.0.state hd made.1.happens) (call_stands e.state lib c'.ask c'.told made'.0.state he made'.1.happens) o.known_same
      (λ x i. each x (inr i)) (λ x i. each' x (inr i)) f f' w w' (rest_same c.ask a (asks (g ++ l) ++ r) (first ++ wants) asked) (rest_same c'.ask a (asks (g' ++ l') ++ r') (first ++ wants') asked')
      (λ p q q' i i' u v. agree (c ∷ p) q q' (ap (λ x. c ∷ x) i) (ap (λ x. c' ∷ x) i' ∙ ap (λ x. x ∷ (p ++ q')) (sym call)) u v) made.2 made'.2 in
      record { given_same = ap (λ x. x ∷ g) call ∙ ap (λ xs. c' ∷ xs) rest.given_same; ends = rest.ends; known_same = rest.known_same }

  -- a call that is given is a grant or an allotment that is
  pub calls_get : (g l : List Call) (d d' : Noted) → ((c : Call) → In c g → IsGiven c) → Calls (Notes lib) d (g ++ l) d' → (c : Call) → In c g → Gets c.ask c.told
  calls_get [] l d d' each made c i = absurd i
  calls_get (x ∷ g) l d d' each made c (inl e) =
      subst (λ (y : Call). Gets y.ask y.told) (sym e) (gets_given d.state lib x made.0.state (each x (inl refl)) made.1.happens)
  calls_get (x ∷ g) l d d' each made c (inr i) = calls_get g l made.0 d' (λ y j. each y (inr j)) made.2 c i

  -- ---- what a try keeps

  -- the state stands, all that the session has is out, and the nodes and the credentials are as before
  pub record Carried (d : Noted) (d' : Noted) (x : SessionSeen) : Type 0 where
    pub true : StandsTrue d'.state
    pub has : HasOut (out_of d'.state lib) x
    pub nodes : nodes_of d'.state ≡ nodes_of d.state
    pub creds : d'.state.creds ≡ d.state.creds

  gets_plain : (d d' : Noted) (ask : Ask) (told : Told) → Gets ask told → StandsTrue d.state → Notes lib d ask told d' → StandsTrue d'.state
  gets_plain d d' (Grant ino kind) told g t n = call_true d.state lib (Grant ino kind) told d'.state refl t n.happens
  gets_plain d d' (Allot pages numbers) told g t n = call_true d.state lib (Allot pages numbers) told d'.state refl t n.happens
  gets_plain d d' ask told g t n = absurd g

  gets_nodes : (d d' : Noted) (ask : Ask) (told : Told) → Gets ask told → StandsTrue d.state → Notes lib d ask told d' → nodes_of d'.state ≡ nodes_of d.state
  gets_nodes d d' (Grant ino kind) told g t n = grant_stays d.state lib.0 ino kind (answer_of told) d'.state t.stands.kept n.happens.is_step
  gets_nodes d d' (Allot pages numbers) told g t n = allot_stays d.state lib.0 pages numbers (answer_of told) d'.state t.stands.kept n.happens.is_step
  gets_nodes d d' ask told g t n = absurd g

  -- what is told is taken
  gets_has : (s s' : State) (x : SessionSeen) (ask : Ask) (told : Told) → Gets ask told → Stands s → HasOut (out_of s lib) x → Happens s lib ask told s' → HasOut (out_of s' lib) (took x (told ∷ []))
  gets_has s s' x (Grant ino kind) (Lent lease) g t h is =
      has_same _ _ (with_lease x lease) (call_leaves s lib s' (Grant ino kind) (Lent lease) tt t.kept is) (has_lease (out_of s lib) x lease h)
  gets_has s s' x (Grant ino kind) (NotLent fault) g t h is = has_same _ _ x (call_leaves s lib s' (Grant ino kind) (NotLent fault) tt t.kept is) h
  gets_has s s' x (Allot pages numbers) (Given ps ns) g t h is =
      has_same _ _ (with_allotted x ps ns) (call_leaves s lib s' (Allot pages numbers) (Given ps ns) tt t.kept is) (has_allotted (out_of s lib) x ps ns h)
  gets_has s s' x (Allot pages numbers) (NotGiven fault) g t h is = has_same _ _ x (call_leaves s lib s' (Allot pages numbers) (NotGiven fault) tt t.kept is) h
  gets_has s s' x ask told g t h is = absurd g

  one_carried : (d d' : Noted) (x : SessionSeen) (c : Call) → Gets c.ask c.told → StandsTrue d.state → HasOut (out_of d.state lib) x → Notes lib d c.ask c.told d' → Carried d d' (took x (c.told ∷ []))
  one_carried d d' x c g t h n = record {
    true = gets_plain d d' c.ask c.told g t n;
    has = gets_has d.state d'.state x c.ask c.told g t.stands h n.happens;
    nodes = gets_nodes d d' c.ask c.told g t n;
    creds = happens_creds d.state lib c.ask c.told d'.state n.happens;
  }

  carried_on : (d m d' : Noted) (x y : SessionSeen) → Carried d m x → Carried m d' y → Carried d d' y
  carried_on d m d' x y a b = record { true = b.true; has = b.has; nodes = b.nodes ∙ a.nodes; creds = b.creds ∙ a.creds }

  -- nothing is taken at the end of a try
  final_carried : (d d' : Noted) (x : SessionSeen) (end : Outcome) (l : List Call) → Final end l → StandsTrue d.state → HasOut (out_of d.state lib) x → Calls (Notes lib) d l d' → Carried d d' x
  final_carried d d' x end l (NoneLast a q) t h made = subst (λ z. Carried d z x) (sym made) (record { true = t; has = h; nodes = refl; creds = refl })
  final_carried d d' x end l (OneLast y c g some told) t h made =
      let one = one_carried d made.0 x c g t h made.1 in
      subst (λ z. Carried d z x) (sym made.2)
      (record { true = one.true; has = subst (HasOut (out_of made.0.state lib)) (not_taken c.told told) one.has; nodes = one.nodes; creds = one.creds })
    where
      not_taken : (t : Told) → outcome_told t ≡ Some end → took x (t ∷ []) ≡ x
      not_taken (NotLent fault) e = refl
      not_taken (NotGiven fault) e = refl
      not_taken (Lent lease) e = absurd (cc e)
      not_taken (Given ps ns) e = absurd (cc e)
      not_taken Done e = absurd (cc e)
      not_taken (Judged answer) e = absurd (cc e)
      not_taken (NotJudged fault) e = absurd (cc e)
      not_taken Settled e = absurd (cc e)
      not_taken NotSettled e = absurd (cc e)
      not_taken ModeSet e = absurd (cc e)
      not_taken (NotModeSet fault) e = absurd (cc e)

  pub took_one : (x : SessionSeen) (t : Told) (more : List Told) → took (took x (t ∷ [])) more ≡ took x (t ∷ more)
  took_one x (Lent lease) more = refl
  took_one x (Given ps ns) more = refl
  took_one x (NotLent fault) more = refl
  took_one x (NotGiven fault) more = refl
  took_one x Done more = refl
  took_one x (Judged answer) more = refl
  took_one x (NotJudged fault) more = refl
  took_one x Settled more = refl
  took_one x NotSettled more = refl
  took_one x ModeSet more = refl
  took_one x (NotModeSet fault) more = refl

  pub tried_carried : (g l : List Call) (d d' : Noted) (x : SessionSeen) (end : Outcome) → ((c : Call) → In c g → IsGiven c) → Final end l → StandsTrue d.state → HasOut (out_of d.state lib) x → Calls (Notes lib) d (g ++ l) d' → Carried d d' (took x (map (λ (c : Call). c.told) g))
  tried_carried [] l d d' x end each f t h made = final_carried d d' x end l f t h made
  tried_carried (c ∷ g) l d d' x end each f t h made =
      let one = one_carried d made.0 x c (gets_given d.state lib c made.0.state (each c (inl refl)) made.1.happens) t h made.1 in
      let rest = tried_carried g l made.0 d' (took x (c.told ∷ [])) end (λ y i. each y (inr i)) f one.true one.has made.2 in
      subst (Carried d d') (took_one x c.told (map (λ (y : Call). y.told) g)) (carried_on d made.0 d' (took x (c.told ∷ [])) (took (took x (c.told ∷ [])) (map (λ (y : Call). y.told) g)) one rest)
