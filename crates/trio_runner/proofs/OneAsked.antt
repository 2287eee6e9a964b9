-- An honest library whose calls of its desk are the same in two runs is told the same in both: each of its tries goes as far, since nodes
-- that are possible where the one has more are possible where the other has less.
use Rattle.trio_runner.proofs.Words.{◌++◌, ◌+◌, ◌∙◌, ◌∷◌, ◌≡◌, ◌≢◌, Again, Allot, ArePossible, Ask, AskedBy, Begun, Bool, BreaksOff, Busy, BusyMode, Call, CallLine, Called, Chmod, ChmodCalled, ChmodTried, Comes, ComesBy, CourseGoes, Creds, DeskIsLeft, DirTried, EndSettled, Ends, EndsAs, EndsBroken, EndsHandedIn, EndsModed, EntryCalled, FileCalled, FileTried, GiveBack, Given, GivesUp, Goes, Going, Grant, HandsIn, Heard, Holder, HonestComes, HonestLine, In, In-cases, In-right, InSession, IsAlike, IsDone, IsGiven, IsNotBusy, IsReplied, LeavesBy, LeftOut, LegalCalls, Lent, LibNo, LineAnswer, List, MatchBool, MayCall, Mode, ModeSet, NoMemory, NoModeMemory, Nodes, None, NotGiven, NotLent, NotModeSet, NotSettled, Once, Option, Origin, OthersLeave, Outcome, Path, Place, Release, Replied, Reply, Row, Says, SaysHonest, SessionCalled, SessionSeen, SetMode, SetsMode, Settle, SettleLine, Settled, Settles, Share, Shown, Some, Things, Told, Turn, TurnGoes, Unbegun, Unsettled, [], alike_back, all_parts, ap, append-nil, append_assoc, applied, arith, as_lent, asked, batch_nodes, creds_of, dir_needs, emptied, false, false≢true, grant_ask, hand_in_ask, inl, inr, is_dir_call, lacks_room, length, length-append, length-map, lent_to, map, map-append, mode_ask, parts_of, refl, sees_at, served_by, shows_root, started, subst, sym, told_outcome, took, took_alike, took_more, true, wants_of, with_answer, with_end, ℕ}
use Rattle.std.specs.Prelude.{◌⊎◌}
use Rattle.std.proofs.lemmas.List.Concat.{flat_map-append}
use mathlib.Core.List.{append_cancel_left}
use Rattle.trio_nodes.specs.declared.call.Call as call
use Rattle.trio_nodes.specs.declared.call.Done.{Done as DoneCall}
use Rattle.trio_nodes.specs.declared.call.Reply.TheVariants.{Denied}
use Rattle.trio_desk.specs.Calls as desk
use Rattle.trio_order.specs.Order.{back_call}
use Rattle.trio_calls_file.specs.Asks as on_file
use Rattle.trio_calls_dir.specs.Asks as on_dir
use Rattle.trio_report.specs.declared.answer.LineAnswer.TheVariants as answered
use Rattle.trio_runner.proofs.Batches.{calls_parted}
use Rattle.trio_runner.proofs.Keeping.{course_keeps, turn_keeps}
use Rattle.trio_runner.proofs.Left.{took_calls}
use Rattle.trio_runner.proofs.OneCall.{alike_both, not_busy, room_alike}
use Rattle.trio_runner.proofs.OneDir.{applied_reply, number_of, wants_agree}
use Rattle.trio_runner.proofs.OneDir.{left_replied as dir_replied, left_same as dirs_same}
use Rattle.trio_runner.proofs.OneFile.{files_same}
use Rattle.trio_runner.proofs.OneFile.{left_replied as file_replied}
use Rattle.trio_runner.proofs.OneMode.{broken_off, broken_same, left_alike, same_back, stage, stage_final}
use Rattle.trio_runner.proofs.OneReply.{last_legal, reply_is, same_end}
use Rattle.trio_runner.proofs.OneTry.{BothReplied, EndsSame, Final, Gets, NoneLast, OneLast, SameEnd, asks, final_of, first_same, given_goes_on, outcome_told, part_of, rest_same}
use Rattle.trio_runner.proofs.RanFree.{HoldsAt, turn_holds}
use Rattle.trio_runner.proofs.SeatHas.{AtSeat, Exact, Less, Possible, all_get, at_calls, at_goes, less_alike, less_exact, less_then, less_took, may_exact, own_creds, possible_at, possible_less, same_root, same_sizes, seat_settled, tolds, tried_exact}

-- ---- calls in their parts

-- the calls of a library so far, part by part
abbrev pub did : Going → List Call
did g = all_parts g.calls

parts_append : (xs ys : List Call) → all_parts (xs ++ ys) ≡ all_parts xs ++ all_parts ys
parts_append xs ys = flat_map-append (λ (c : Call). parts_of c.ask c.told) xs ys

gets_part : (ask : Ask) (told : Told) → Gets ask told → parts_of ask told ≡ record { ask = ask; told = told } ∷ []
gets_part (Grant ino kind) (Lent lease) g = refl
gets_part (Grant ino kind) (NotLent fault) g = refl
gets_part (Allot pages numbers) (Given ps ns) g = refl
gets_part (Allot pages numbers) (NotGiven fault) g = refl
gets_part ask told g = absurd g

gets_parts : (cs : List Call) → ((c : Call) → In c cs → Gets c.ask c.told) → all_parts cs ≡ cs
gets_parts [] gets = refl
gets_parts (c ∷ cs) gets = ap (λ (l : List Call). l ++ all_parts cs) (gets_part c.ask c.told (gets c (inl refl))) ∙ ap (λ (l : List Call). c ∷ l) (gets_parts cs (λ x i. gets x (inr i)))

pub made_calls : (cs : List Call) (g g' : Going) → desk.Calls Goes g cs g' → g'.calls ≡ g.calls ++ cs
made_calls [] g g' made = ap (λ (x : Going). x.calls) made ∙ sym (append-nil g.calls)
made_calls (c ∷ cs) g g' made =
    let first : Goes g c.ask c.told made.0 = made.1 in
    made_calls cs made.0 g' made.2 ∙ ap (λ (l : List Call). l ++ cs) first.calls_are ∙ append_assoc g.calls (c ∷ []) cs

-- there are these calls, and others behind them
abbrev pub HasMore : List Call → Going → Type 0
HasMore base g = (more : List Call) × (g.calls ≡ base ++ more)

pub more_stays : (base : List Call) (g : Going) (ask : Ask) (told : Told) (g' : Going) → HasMore base g → Goes g ask told g' → HasMore base g'
more_stays base g ask told g' more goes =
    let c : Call = record { ask = ask; told = told } in
    (more.0 ++ c ∷ [], goes.calls_are ∙ ap (λ (l : List Call). l ++ c ∷ []) more.1 ∙ append_assoc base more.0 (c ∷ []))

-- more parts came behind
abbrev Grew : Going → Going → Type 0
Grew g g' = (r : List Call) × (did g' ≡ did g ++ r)

grew_more : (g g' : Going) → HasMore g.calls g' → Grew g g'
grew_more g g' more = (all_parts more.0, ap (λ (l : List Call). all_parts l) more.1 ∙ parts_append g.calls more.0)

did_calls : (cs : List Call) (g g' : Going) → desk.Calls Goes g cs g' → did g' ≡ did g ++ all_parts cs
did_calls cs g g' made = ap (λ (l : List Call). all_parts l) (made_calls cs g g' made) ∙ parts_append g.calls cs

grew_then : (g h k : Going) → Grew g h → Grew h k → Grew g k
grew_then g h k a b = (a.0 ++ b.0, b.1 ∙ ap (λ (l : List Call). l ++ b.0) a.1 ∙ append_assoc (did g) a.0 b.0)

grew_none : (g : Going) → Grew g g
grew_none g = ([], sym (append-nil (did g)))

-- two runs have done the same so far, with more behind
abbrev Ahead : Going → Going → Type 0
Ahead g h = (more : List Call) × (others : List Call) × (did g ++ more ≡ did h ++ others)

ahead : (g g' h h' : Going) → Grew g g' → Grew h h' → Ahead g' h' → Ahead g h
ahead g g' h h' a b e = (
  a.0 ++ e.0,
  b.0 ++ e.1,
  sym (append_assoc (did g) a.0 e.0) ∙ ap (λ (l : List Call). l ++ e.0) (sym a.1) ∙ e.2 ∙ ap (λ (l : List Call). l ++ e.1) b.1 ∙ append_assoc (did h) b.0 e.1,
)

behind_same : (a b x y m o : List Call) → a ≡ b → (a ++ x) ++ m ≡ (b ++ y) ++ o → x ++ m ≡ y ++ o
behind_same a b x y m o same e =
    append_cancel_left b (x ++ m) (y ++ o) (sym (append_assoc b x m) ∙ ap (λ (l : List Call). (l ++ x) ++ m) (sym same) ∙ e ∙ append_assoc b y o)

first_call : (c d : Call) (xs ys : List Call) → c ∷ xs ≡ d ∷ ys → c ≡ d
first_call c d xs ys e = cc e

rest_calls : (c d : Call) (xs ys : List Call) → c ∷ xs ≡ d ∷ ys → xs ≡ ys
rest_calls c d xs ys e = cc e

-- ---- how far two tries go

-- They go as far: the same was given, and the same wasn't. Or the one ends without a call more, where the other goes on.
data Split (g l m g' l' m' : List Call) : Type 0 where
  AsFar : g ≡ g' → l ≡ l' → m ≡ m' → Split g l m g' l' m'
  FirstEnds : l ≡ [] → (q : List Call) → g' ≡ g ++ q → m ≡ (q ++ l') ++ m' → (q ++ l' ≡ [] → ⊥) → Split g l m g' l' m'
  SecondEnds : l' ≡ [] → (q : List Call) → g ≡ g' ++ q → m' ≡ (q ++ l) ++ m → (q ++ l ≡ [] → ⊥) → Split g l m g' l' m'

split_back : (g l m g' l' m' : List Call) → Split g l m g' l' m' → Split g' l' m' g l m
split_back g l m g' l' m' (AsFar a b c) = AsFar (sym a) (sym b) (sym c)
split_back g l m g' l' m' (FirstEnds le q is more some) = SecondEnds le q is more some
split_back g l m g' l' m' (SecondEnds le q is more some) = FirstEnds le q is more some

split_more : (c c' : Call) (g l m g' l' m' : List Call) → c ≡ c' → Split g l m g' l' m' → Split (c ∷ g) l m (c' ∷ g') l' m'
split_more c c' g l m g' l' m' e (AsFar a b d) = AsFar (ap (λ (x : Call). x ∷ g) e ∙ ap (λ (z : List Call). c' ∷ z) a) b d
split_more c c' g l m g' l' m' e (FirstEnds le q is more some) = FirstEnds le q (ap (λ (z : List Call). c' ∷ z) is ∙ ap (λ (x : Call). x ∷ (g ++ q)) (sym e)) more some
split_more c c' g l m g' l' m' e (SecondEnds le q is more some) = SecondEnds le q (ap (λ (z : List Call). c ∷ z) is ∙ ap (λ (x : Call). x ∷ (g' ++ q)) e) more some

split_ends : (l m l' m' : List Call) (end end' : Outcome) → Final end l → Final end' l' → l ++ m ≡ l' ++ m' → Split [] l m [] l' m'
split_ends l m l' m' end end' (NoneLast a q) (NoneLast b r) e = AsFar refl refl e
split_ends l m l' m' end end' (NoneLast a q) (OneLast y c gets some told) e = FirstEnds refl [] refl e (λ w. cc w)
split_ends l m l' m' end end' (OneLast y c gets some told) (NoneLast b r) e = SecondEnds refl [] refl (sym e) (λ w. cc w)
split_ends l m l' m' end end' (OneLast y c gets some told) (OneLast z d gets' some' told') e =
    AsFar refl (ap (λ (x : Call). x ∷ []) (first_call c d m m' e)) (rest_calls c d m m' e)

split_given : (c : Call) (g l m l' m' : List Call) (end : Outcome) → IsGiven c → Final end l → l ++ m ≡ c ∷ ((g ++ l') ++ m') → Split [] l m (c ∷ g) l' m'
split_given c g l m l' m' end given (NoneLast a q) e = FirstEnds refl (c ∷ g) refl e (λ w. cc w)
split_given c g l m l' m' end given (OneLast y d gets some told) e =
    absurd (given_goes_on c end given (ap (λ (x : Call). outcome_told x.told) (sym (first_call d c m ((g ++ l') ++ m') e)) ∙ told))

split : (g l m g' l' m' : List Call) (end end' : Outcome) → ((c : Call) → In c g → IsGiven c) → ((c : Call) → In c g' → IsGiven c) → Final end l → Final end' l' → (g ++ l) ++ m ≡ (g' ++ l') ++ m' → Split g l m g' l' m'
split [] l m [] l' m' end end' each each' f f' e = split_ends l m l' m' end end' f f' e
split [] l m (c ∷ g') l' m' end end' each each' f f' e = split_given c g' l m l' m' end (each' c (inl refl)) f e
split (c ∷ g) l m [] l' m' end end' each each' f f' e = split_back [] l' m' (c ∷ g) l m (split_given c g l' m' l m end' (each c (inl refl)) f' (sym e))
split (c ∷ g) l m (c' ∷ g') l' m' end end' each each' f f' e =
    split_more c c' g l m g' l' m' (first_call c c' ((g ++ l) ++ m) ((g' ++ l') ++ m') e)
    (split g l m g' l' m' end end' (λ x i. each x (inr i)) (λ x i. each' x (inr i)) f f' (rest_calls c c' ((g ++ l) ++ m) ((g' ++ l') ++ m') e))

-- where the last calls are the same the ends are
same_final : (end end' : Outcome) (l l' : List Call) → Final end l → Final end' l' → l ≡ l' → SameEnd end end'
same_final end end' l l' (NoneLast a q) (NoneLast b r) e = BothReplied a b q r
same_final end end' l l' (NoneLast a q) (OneLast y c gets some told) e = absurd (cc e)
same_final end end' l l' (OneLast y c gets some told) (NoneLast b r) e = absurd (cc e)
same_final end end' l l' (OneLast y c gets some told) (OneLast z d gets' some' told') e =
    let one : c ≡ d = first_call c d [] [] e in
    let ends : Some end ≡ Some end' = sym told ∙ ap (λ (x : Call). outcome_told x.told) one ∙ told' in
    let is : end ≡ end' = cc ends in subst (SameEnd end) is (EndsSame end)

none_replied : (end : Outcome) (l : List Call) → Final end l → l ≡ [] → (a : Reply) × (end ≡ Replied a)
none_replied end l (NoneLast a q) e = (a, refl)
none_replied end l (OneLast y c gets some told) e = absurd (cc e)

final_gets : (end : Outcome) (l : List Call) → Final end l → (c : Call) → In c l → Gets c.ask c.told
final_gets end l (NoneLast a q) c i = absurd i
final_gets end l (OneLast y d gets some told) c i = elim i [ inl e ↦ subst (λ (z : Call). Gets z.ask z.told) (sym e) gets | inr none ↦ absurd none ]

empty_list : {X : Type 0} (xs : List X) → length xs ≡ 0 → xs ≡ []
empty_list [] e = refl
empty_list (x ∷ xs) e = absurd (cc e)

-- what is all of it is no more than a part
no_longer : (g l g' l' q : List Call) (r : List Ask) → l ≡ [] → g' ≡ g ++ q → (q ++ l' ≡ [] → ⊥) → asks (g ++ l) ≡ asks (g' ++ l') ++ r → ⊥
no_longer g l g' l' q r le is some e =
    let ask : Call → Ask = λ (c : Call). c.ask in
    let count : List Ask → ℕ = λ (z : List Ask). length z in
    let all : length (asks (g ++ l)) ≡ length (asks (g' ++ l') ++ r) = ap count e in
    let a : length (asks (g ++ l)) ≡ length (g ++ l) = length-map (g ++ l) ask in
    let b : length (g ++ l) ≡ length g + length l = length-append g l in
    let c : length l ≡ 0 = ap (λ (z : List Call). length z) le in
    let d : length (asks (g' ++ l') ++ r) ≡ length (asks (g' ++ l')) + length r = length-append (asks (g' ++ l')) r in
    let f : length (asks (g' ++ l')) ≡ length (g' ++ l') = length-map (g' ++ l') ask in
    let h : length (g' ++ l') ≡ length g' + length l' = length-append g' l' in
    let i : length g' ≡ length g + length q = ap (λ (z : List Call). length z) is ∙ length-append g q in
    let j : length (q ++ l') ≡ length q + length l' = length-append q l' in
    some (empty_list (q ++ l') (omega (arith, all, a, b, c, d, f, h, i, j)))

-- what was asked first, and then
asks_parted : (first wants : List Ask) (g : List Call) → first ++ wants ≡ asks g → (p : List Call) × (q : List Call) × (g ≡ p ++ q) × (asks p ≡ first) × (asks q ≡ wants)
asks_parted [] wants g e = ([], g, refl, refl, sym e)
asks_parted (a ∷ first) wants [] e = absurd (cc e)
asks_parted (a ∷ first) wants (c ∷ g) e =
    let rest = asks_parted first wants g (rest_same a c.ask (first ++ wants) (asks g) e) in (
      c ∷ rest.0,
      rest.1,
      ap (λ (z : List Call). c ∷ z) rest.2,
      ap (λ (z : Ask). z ∷ asks rest.0) (sym (first_same a c.ask (first ++ wants) (asks g) e)) ∙ ap (λ (z : List Ask). a ∷ z) rest.3,
      rest.4,
    )

-- ---- the last call of a change of mode

-- the call asks for more: a grant, or an allotment
abbrev asks_more : Ask → Bool
asks_more (Grant ino kind) = true
asks_more (Allot pages numbers) = true
asks_more ask = false

-- how a change of mode ends by its last call
abbrev last_end : Told → Ask → Option Outcome
last_end Settled (Settle parcel back (d ∷ ds)) = Some (Replied d.reply)
last_end ModeSet ask = Some (Replied (IsReplied IsDone))
last_end (NotModeSet (BusyMode holder)) ask = Some (Busy holder)
last_end told ask = None

gets_more : (ask : Ask) (told : Told) → Gets ask told → asks_more ask ≡ true
gets_more (Grant ino kind) told g = refl
gets_more (Allot pages numbers) told g = refl
gets_more (GiveBack back) told g = absurd g
gets_more (Release parcel) told g = absurd g
gets_more (Settle parcel back calls) told g = absurd g
gets_more (SetMode ino mode back said) told g = absurd g

-- it is no lease that is given back
abbrev is_back : Ask → Bool
is_back (GiveBack lease) = true
is_back ask = false

-- leases that are given back before it, and it, don't ask for more
no_more_asks : (back : List Shown) (c : Call) (more : List Call) (d : Call) (others : List Call) → asks_more c.ask ≡ false → asks_more d.ask ≡ true → (map back_call back ++ c ∷ []) ++ more ≡ d ∷ others → ⊥
no_more_asks [] c more d others none some e = false≢true (sym none ∙ ap (λ (x : Call). asks_more x.ask) (first_call c d more others e) ∙ some)
no_more_asks (f ∷ fs) c more d others none some e =
    false≢true (ap (λ (x : Call). asks_more x.ask) (first_call (back_call f) d ((map back_call fs ++ c ∷ []) ++ more) others e) ∙ some)

abbrev lease_in : Ask → List Shown
lease_in (GiveBack lease) = lease ∷ []
lease_in ask = []

first_lease : (f g : Shown) → f ∷ [] ≡ g ∷ [] → f ≡ g
first_lease f g e = cc e

-- leases that are given back, and then a call that gives none back, are parted one way
leads : (b b' : List Shown) (c c' : Call) (more others : List Call) → is_back c.ask ≡ false → is_back c'.ask ≡ false → (map back_call b ++ c ∷ []) ++ more ≡ (map back_call b' ++ c' ∷ []) ++ others → (b ≡ b') × (c ≡ c')
leads [] [] c c' more others none none' e = (refl, first_call c c' more others e)
leads [] (f ∷ fs) c c' more others none none' e =
    absurd (false≢true (sym none ∙ ap (λ (x : Call). is_back x.ask) (first_call c (back_call f) more ((map back_call fs ++ c' ∷ []) ++ others) e)))
leads (f ∷ fs) [] c c' more others none none' e =
    absurd (false≢true (sym none' ∙ ap (λ (x : Call). is_back x.ask) (sym (first_call (back_call f) c' ((map back_call fs ++ c ∷ []) ++ more) others e))))
leads (f ∷ fs) (g ∷ gs) c c' more others none none' e =
    let one = first_call (back_call f) (back_call g) ((map back_call fs ++ c ∷ []) ++ more) ((map back_call gs ++ c' ∷ []) ++ others) e in
    let same : f ≡ g = first_lease f g (ap (λ (x : Call). lease_in x.ask) one) in
    let rest = leads fs gs c c' more others none none' (rest_calls (back_call f) (back_call g) ((map back_call fs ++ c ∷ []) ++ more) ((map back_call gs ++ c' ∷ []) ++ others) e) in
    (ap (λ (x : Shown). x ∷ fs) same ∙ ap (λ (z : List Shown). g ∷ z) rest.0, rest.1)

-- ---- an end

-- an end that is told, after which a session that was replied may make calls
abbrev MayAt : Outcome → Going → SessionSeen → Type 0
MayAt (Replied answer) g x = MayCall (sees_at g) x
MayAt (Busy holder) g x = Unit {0}
MayAt NoMemory g x = ⊥

may_known : (end : Outcome) (g : Going) (x : SessionSeen) → MayAt end g x → end ≢ NoMemory
may_known (Replied answer) g x may e = cc e
may_known (Busy holder) g x may e = cc e
may_known NoMemory g x may e = absurd may

may_told : (end : Outcome) (told : LineAnswer) (g : Going) (x : SessionSeen) → told_outcome end ≡ Some told → MayCall (sees_at g) x → MayAt end g x
may_told (Replied answer) told g x e may = may
may_told (Busy holder) told g x e may = tt
may_told NoMemory told g x e may = absurd (cc e)

-- two tries, or two calls, come to the same
record OneEndAt (end end' : Outcome) (d' e' : Going) (x' y' : SessionSeen) : Type 0 where
  end_same : end ≡ end'
  alike : IsAlike x' y'
  did_same : did d' ≡ did e'

-- two settles of alike sessions
record OneSettleAt (d' e' : Going) (x' y' : SessionSeen) : Type 0 where
  alike : IsAlike x' y'
  did_same : did d' ≡ did e'

settle_did : (d d' : Going) (x x' : SessionSeen) → Settles Goes d x d' x' → did d' ≡ did d ++ all_parts (record { ask = Settle x.parcel x.reads x.calls; told = Settled } ∷ [])
settle_did d d' x x' t =
    let settle : List Call = record { ask = Settle x.parcel x.reads x.calls; told = Settled } ∷ [] in
    ap (λ (l : List Call). all_parts l) t.made.calls_are ∙ parts_append d.calls settle

settle_grew : (d d' : Going) (x x' : SessionSeen) → Settles Goes d x d' x' → Grew d d'
settle_grew d d' x x' t = (all_parts (record { ask = Settle x.parcel x.reads x.calls; told = Settled } ∷ []), settle_did d d' x x' t)

settles_same : (d e d' e' : Going) (x y x' y' : SessionSeen) → did d ≡ did e → IsAlike x y → Settles Goes d x d' x' → Settles Goes e y e' y' → OneSettleAt d' e' x' y'
settles_same d e d' e' x y x' y' same like t u =
    let parts : SessionSeen → List Call = λ z. all_parts (record { ask = Settle z.parcel z.reads z.calls; told = Settled } ∷ []) in
    let both : parts y ≡ parts x = ap parts like in
    record {
      alike = alike_both (emptied x) (emptied y) x' y' (ap emptied like) (room_alike (emptied x) x' t.empty) (room_alike (emptied y) y' u.empty);
      did_same = settle_did d d' x x' t ∙ ap (λ (l : List Call). l ++ parts x) same ∙ ap (λ (l : List Call). did e ++ l) (sym both) ∙ sym (settle_did e e' y y' u);
    }

module _ (is_left : DeskIsLeft) (others_leave : OthersLeave) (first : Origin) (lib : LibNo) where
  abbrev own : Creds
  own = creds_of (started first) lib.0

  -- From alike sessions that have just what is out, after the same calls, two tries that have the same calls come to the same.
  abbrev OneTryAt : (Going → SessionSeen → Outcome → Going → SessionSeen → Type 0) → Type 0
  OneTryAt Try =
      (d e d' e' : Going) (x y x' y' : SessionSeen) (end end' : Outcome)
      → AtSeat first lib d → AtSeat first lib e → did d ≡ did e → IsAlike x y → Exact (sees_at d).out x → Exact (sees_at e).out y
      → MayAt end d' x' → MayAt end' e' y' → Try d x end d' x' → Try e y end' e' y' → Ahead d' e' → OneEndAt end end' d' e' x' y'

  -- ---- what is true of one try

  record FactsAt (d d' : Going) (x : SessionSeen) (end : Outcome) (given last : List Call) : Type 0 where
    at : AtSeat first lib d'
    did_is : did d' ≡ did d ++ (given ++ last)
    gets : (c : Call) → In c given → Gets c.ask c.told
    final : Final end last
    exact : Exact (sees_at d').out (took x (tolds given))
    possible : Possible d' (took x (tolds given))

  facts_at : (d d' : Going) (x : SessionSeen) (end : Outcome) (given last : List Call) → AtSeat first lib d → Exact (sees_at d).out x → ((c : Call) → In c given → IsGiven c) → Final end last → desk.Calls Goes d (given ++ last) d' → FactsAt d d' x end given last
  facts_at d d' x end given last a h each f made =
      let gets = all_get is_left others_leave first lib given last d d' each made in
      let whole : all_parts (given ++ last) ≡ given ++ last =
      gets_parts (given ++ last) (λ c i. elim (In-cases c given last i) [ inl j ↦ gets c j | inr j ↦ final_gets end last f c j ]) in
      let a' = at_calls is_left others_leave first lib (given ++ last) d d' a made in
      let h' = tried_exact is_left others_leave first lib given last end x d d' each f made h in
      record {
        at = a';
        did_is = did_calls (given ++ last) d d' made ∙ ap (λ (l : List Call). did d ++ l) whole;
        gets = gets;
        final = f;
        exact = h';
        possible = possible_at is_left others_leave first lib d' (took x (tolds given)) a' h';
      }

  -- how far two tries go that have the same calls
  tries_split : (d e d' e' : Going) (x y : SessionSeen) (end end' : Outcome) (g l g' l' : List Call) → FactsAt d d' x end g l → FactsAt e e' y end' g' l' → did d ≡ did e → ((c : Call) → In c g → IsGiven c) → ((c : Call) → In c g' → IsGiven c)
      → (e2 : Ahead d' e') → Split g l e2.0 g' l' e2.1
  tries_split d e d' e' x y end end' g l g' l' f f' same each each' e2 =
      split g l e2.0 g' l' e2.1 end end' each each' f.final f'.final
      (behind_same (did d) (did e) (g ++ l) (g' ++ l') e2.0 e2.1 same (ap (λ (z : List Call). z ++ e2.0) (sym f.did_is) ∙ e2.2 ∙ ap (λ (z : List Call). z ++ e2.1) f'.did_is))

  both_did : (d e d' e' : Going) (x y : SessionSeen) (end end' : Outcome) (g l g' l' : List Call) → FactsAt d d' x end g l → FactsAt e e' y end' g' l' → did d ≡ did e → g ≡ g' → l ≡ l' → did d' ≡ did e'
  both_did d e d' e' x y end end' g l g' l' f f' same gs ls =
      f.did_is ∙ ap (λ (z : List Call). z ++ (g ++ l)) same ∙ ap (λ (z : List Call). did e ++ (z ++ l)) gs ∙ ap (λ (z : List Call). did e ++ (g' ++ z)) ls ∙ sym f'.did_is

  -- where the other was given more, it has more
  less_given : (x y : SessionSeen) (g g' q : List Call) → IsAlike x y → g' ≡ g ++ q → Less (took x (tolds g)) (took y (tolds g'))
  less_given x y g g' q like is =
      let middle : SessionSeen = took y (tolds g) in
      let more : took middle (tolds q) ≡ took y (tolds g') =
      sym (took_more y (tolds g) (tolds q)) ∙ ap (took y) (sym (map-append (λ (c : Call). c.told) g q)) ∙ ap (λ (z : List Call). took y (tolds z)) (sym is) in
      less_then (took x (tolds g)) middle (took y (tolds g')) (less_alike (took x (tolds g)) middle (took_alike x y (tolds g) like)) (subst (Less middle) more (less_took (tolds q) middle))

  -- a reply that tells no want of room is what the call comes to, in nodes that are possible
  reply_at : (g : Going) (x x' : SessionSeen) (k : call.Call) (a : Reply) (made : ℕ) → AtSeat first lib g → MayCall (sees_at g) x' → (nodes : Nodes) (rows : List (Option Row)) → ArePossible (sees_at g) x'.parcel x'.reads nodes rows
      → x'.calls ≡ x.calls ++ record { call = k; reply = a; made = made } ∷ [] → lacks_room a ≡ false → a ≡ (applied (batch_nodes own x.calls nodes) own k made).reply
  reply_at g x x' k a made at may nodes rows p left q =
      let last : DoneCall = record { call = k; reply = a; made = made } in
      let cs : Creds = (sees_at g).creds in
      let legal : LegalCalls cs nodes (x.calls ++ last ∷ []) = subst (LegalCalls cs nodes) left (may.comes nodes rows p).0 in
      subst (λ (c : Creds). a ≡ (applied (batch_nodes c x.calls nodes) c k made).reply) (own_creds is_left others_leave first lib g at)
      (reply_is (batch_nodes cs x.calls nodes) _ cs k made a q (last_legal cs nodes x.calls last legal))

  -- ---- a call on a file

  file_less : (k : call.Call) (file : ℕ) (end : Outcome) (d' : Going) (all x' : SessionSeen) → MayAt end d' x' → on_file.Leaves k file end all x' → Exact (sees_at d').out all → Less x' all
  file_less k file (Replied a) d' all x' may l h = less_exact (sees_at d').out x' all (may_exact (sees_at d') x' may) h
  file_less k file (Busy holder) d' all x' may l h = less_alike x' all (alike_back all x' l)
  file_less k file NoMemory d' all x' may l h = absurd may

  module _ (k : call.Call) (d d' : Going) (x x' : SessionSeen) (end : Outcome) (t : FileTried Goes sees_at k d x end d' x') (f : FactsAt d d' x end t.1.given t.1.last) (may : MayAt end d' x') (nodes : Nodes) (rows : List (Option Row))
      (p : ArePossible (sees_at d') (took x (tolds t.1.given)).parcel (took x (tolds t.1.given)).reads nodes rows) where
    file_after : ArePossible (sees_at d') x'.parcel x'.reads nodes rows
    file_after =
        let all : SessionSeen = took x (tolds t.1.given) in
        possible_less (sees_at d') (sees_at d') x' all refl refl (file_less k t.0 end d' all x' may t.1.leaves f.exact) nodes rows p

    file_says : on_file.TriedIn own x k end t.0 (asks (t.1.given ++ t.1.last)) (batch_nodes own x.calls nodes)
    file_says =
        subst (λ (c : Creds). on_file.TriedIn c x k end t.0 (asks (t.1.given ++ t.1.last)) (batch_nodes c x.calls nodes)) (own_creds is_left others_leave first lib d' f.at)
        (t.1.shown nodes rows file_after)

    file_replies : (a : Reply) → end ≡ Replied a → lacks_room a ≡ false → a ≡ (applied (batch_nodes own x.calls nodes) own k 0).reply
    file_replies a e q =
        let all : SessionSeen = took x (tolds t.1.given) in
        let last : DoneCall = record { call = k; reply = a; made = 0 } in
        reply_at d' x x' k a 0 f.at (subst (λ o. MayAt o d' x') e may) nodes rows file_after
        (file_replied k t.0 a all x' (subst (λ o. on_file.Leaves k t.0 o all x') e t.1.leaves) ∙ ap (λ (cs : List DoneCall). cs ++ last ∷ []) (took_calls x (tolds t.1.given))) q

  module _ (k : call.Call) (d e d' e' : Going) (x y x' y' : SessionSeen) (end end' : Outcome) (like : IsAlike x y) (may : MayAt end d' x') (may' : MayAt end' e' y') (t : FileTried Goes sees_at k d x end d' x') (u : FileTried Goes sees_at k e y end' e' y')
      (f : FactsAt d d' x end t.1.given t.1.last) (f' : FactsAt e e' y end' u.1.given u.1.last) where
    -- the one can't end where the other goes on
    file_first : t.1.last ≡ [] → (q : List Call) → u.1.given ≡ t.1.given ++ q → (q ++ u.1.last ≡ [] → ⊥) → ⊥
    file_first le q is some =
        let all : SessionSeen = took x (tolds t.1.given) in
        let all' : SessionSeen = took y (tolds u.1.given) in
        let p = f'.possible in
        let here = possible_less (sees_at e') (sees_at d') all all' (same_sizes is_left others_leave first lib e' d' f'.at f.at) (same_root is_left others_leave first lib e' d' f'.at f.at) (less_given x y t.1.given u.1.given q like is) p.nodes p.rows p.are in
        let s = file_says k d d' x x' end t f may p.nodes p.rows here in
        let s' = file_says k e e' y y' end' u f' may' p.nodes p.rows p.are in
        let wants : SessionSeen → List Ask = λ z. on_file.asks_of (batch_nodes own z.calls p.nodes) own z k in
        let same : wants y ≡ wants x = ap wants like in
        let r = none_replied end t.1.last f.final le in
        let mine : wants x ≡ asks (t.1.given ++ t.1.last) = subst (λ o. AskedBy o (asks (t.1.given ++ t.1.last)) (wants x)) r.1 s.asks in
        let part = part_of end' (asks (u.1.given ++ u.1.last)) (wants y) s'.asks in
        no_longer t.1.given t.1.last u.1.given u.1.last q part.rest le is some (sym mine ∙ sym same ∙ part.are)

    file_far : t.1.given ≡ u.1.given → t.1.last ≡ u.1.last → did d ≡ did e → OneEndAt end end' d' e' x' y'
    file_far gs ls same =
        let all : SessionSeen = took x (tolds t.1.given) in
        let all' : SessionSeen = took y (tolds u.1.given) in
        let near : IsAlike all all' = subst (λ (g : List Call). IsAlike all (took y (tolds g))) gs (took_alike x y (tolds t.1.given) like) in
        let p = f.possible in
        let there = possible_less (sees_at d') (sees_at e') all' all (same_sizes is_left others_leave first lib d' e' f.at f'.at) (same_root is_left others_leave first lib d' e' f.at f'.at) (less_alike all' all (alike_back all all' near)) p.nodes p.rows p.are in
        let s = file_says k d d' x x' end t f may p.nodes p.rows p.are in
        let s' = file_says k e e' y y' end' u f' may' p.nodes p.rows there in
        let applies : SessionSeen → Reply = λ z. (applied (batch_nodes own z.calls p.nodes) own k 0).reply in
        let r : applies y ≡ applies x = ap applies like in
        let ends : end ≡ end' = same_end end end' (same_final end end' t.1.last u.1.last f.final f'.final ls)
        (λ v w i j n m. file_replies k d d' x x' end t f may p.nodes p.rows p.are v i n ∙ sym r ∙ sym (file_replies k e e' y y' end' u f' may' p.nodes p.rows there w j m)) in
        let Now : SessionSeen → Type 0 = λ z. on_file.ComesTo end u.0 (batch_nodes own z.calls p.nodes) own k in
        let come : Now y = subst (λ o. on_file.ComesTo o u.0 (batch_nodes own y.calls p.nodes) own k) (sym ends) s'.comes in
        let come' : Now x = subst Now like come in
        record {
          end_same = ends;
          alike = files_same end t.0 u.0 (batch_nodes own x.calls p.nodes) own k s.comes come' all all' x' y' near t.1.leaves (subst (λ o. on_file.Leaves k u.0 o all' y') (sym ends) u.1.leaves);
          did_same = both_did d e d' e' x y end end' t.1.given t.1.last u.1.given u.1.last f f' same gs ls;
        }

  one_file_at : (k : call.Call) → OneTryAt (FileTried Goes sees_at k)
  one_file_at k d e d' e' x y x' y' end end' a b same like h h' may may' t u e2 =
      by (facts_at d d' x end t.1.given t.1.last a h t.1.each (final_of end t.1.last (may_known end d' x' may) t.1.ends) t.1.made)
      (facts_at e e' y end' u.1.given u.1.last b h' u.1.each (final_of end' u.1.last (may_known end' e' y' may') u.1.ends) u.1.made)
    where
      by : FactsAt d d' x end t.1.given t.1.last → FactsAt e e' y end' u.1.given u.1.last → OneEndAt end end' d' e' x' y'
      by f f' =
          elim (tries_split d e d' e' x y end end' t.1.given t.1.last u.1.given u.1.last f f' same t.1.each u.1.each e2) [
            | AsFar gs ls ms ↦ file_far k d e d' e' x y x' y' end end' like may may' t u f f' gs ls same
            | FirstEnds le q is ms some ↦ absurd (file_first k d e d' e' x y x' y' end end' like may may' t u f f' le q is some)
            | SecondEnds le q is ms some ↦ absurd (file_first k e d e' d' y x y' x' end' end (alike_back x y like) may' may u t f' f le q is some)
          ]

  -- ---- a call on a directory

  dir_less : (creds : Creds) (k : call.Call) (target : on_dir.Target) (end : Outcome) (d' : Going) (all x' : SessionSeen) → MayAt end d' x' → on_dir.Leaves creds k target end all x' → Exact (sees_at d').out all → Less x' all
  dir_less creds k target (Replied a) d' all x' may l h = less_exact (sees_at d').out x' all (may_exact (sees_at d') x' may) h
  dir_less creds k target (Busy holder) d' all x' may l h = less_alike x' all (alike_back all x' l)
  dir_less creds k target NoMemory d' all x' may l h = absurd may

  module _ (k : call.Call) (d d' : Going) (x x' : SessionSeen) (end : Outcome) (t : DirTried Goes sees_at k d x end d' x') (f : FactsAt d d' x end t.1.given t.1.last) (may : MayAt end d' x') (nodes : Nodes) (rows : List (Option Row))
      (p : ArePossible (sees_at d') (took x (tolds t.1.given)).parcel (took x (tolds t.1.given)).reads nodes rows) where
    dir_after : ArePossible (sees_at d') x'.parcel x'.reads nodes rows
    dir_after =
        let all : SessionSeen = took x (tolds t.1.given) in
        possible_less (sees_at d') (sees_at d') x' all refl refl (dir_less x.creds k t.0 end d' all x' may t.1.leaves f.exact) nodes rows p

    dir_says : on_dir.TriedIn own x k end t.0 (took x (tolds t.1.given)) (asks (t.1.given ++ t.1.last)) (batch_nodes own x.calls nodes)
    dir_says =
        subst (λ (c : Creds). on_dir.TriedIn c x k end t.0 (took x (tolds t.1.given)) (asks (t.1.given ++ t.1.last)) (batch_nodes c x.calls nodes)) (own_creds is_left others_leave first lib d' f.at)
        (t.1.shown nodes rows dir_after)

    dir_replies : (a : Reply) → end ≡ Replied a → lacks_room a ≡ false → a ≡ (applied (batch_nodes own x.calls nodes) own k 0).reply
    dir_replies a e q =
        let all : SessionSeen = took x (tolds t.1.given) in
        let n : ℕ = number_of k all a in
        let last : DoneCall = record { call = k; reply = a; made = n } in
        reply_at d' x x' k a n f.at (subst (λ o. MayAt o d' x') e may) nodes rows dir_after
        (dir_replied x.creds k t.0 a all x' (subst (λ o. on_dir.Leaves x.creds k t.0 o all x') e t.1.leaves) ∙ ap (λ (cs : List DoneCall). cs ++ last ∷ []) (took_calls x (tolds t.1.given))) q
        ∙ applied_reply (batch_nodes own x.calls nodes) own k n

  module _ (k : call.Call) (d e d' e' : Going) (x y x' y' : SessionSeen) (end end' : Outcome) (like : IsAlike x y) (may : MayAt end d' x') (may' : MayAt end' e' y') (t : DirTried Goes sees_at k d x end d' x') (u : DirTried Goes sees_at k e y end' e' y')
      (f : FactsAt d d' x end t.1.given t.1.last) (f' : FactsAt e e' y end' u.1.given u.1.last) where
    dir_first : t.1.last ≡ [] → (q : List Call) → u.1.given ≡ t.1.given ++ q → (q ++ u.1.last ≡ [] → ⊥) → ⊥
    dir_first le q is some =
        let g : List Call = t.1.given in
        let l : List Call = t.1.last in
        let g' : List Call = u.1.given in
        let l' : List Call = u.1.last in
        let all : SessionSeen = took x (tolds g) in
        let all' : SessionSeen = took y (tolds g') in
        let p = f'.possible in
        let here = possible_less (sees_at e') (sees_at d') all all' (same_sizes is_left others_leave first lib e' d' f'.at f.at) (same_root is_left others_leave first lib e' d' f'.at f.at) (less_given x y g g' q like is) p.nodes p.rows p.are in
        let s = dir_says k d d' x x' end t f may p.nodes p.rows here in
        let s' = dir_says k e e' y y' end' u f' may' p.nodes p.rows p.are in
        let now : Nodes = batch_nodes own x.calls p.nodes in
        let head : List Ask = map grant_ask (asked (served_by x) (dir_needs now own (shows_root x) k)) in
        let mine : List Ask = wants_of now own k t.0 (as_lent x all) in
        let theirs : List Ask = wants_of now own k u.0 (as_lent x all') in
        let wants : SessionSeen → List Ask = λ z. on_dir.asks_of (batch_nodes own z.calls p.nodes) own z k u.0 all' in
        let same : wants y ≡ wants x = ap wants like in
        let r = none_replied end l f.final le in
        let asked_mine : head ++ mine ≡ asks (g ++ l) = subst (λ o. AskedBy o (asks (g ++ l)) (on_dir.asks_of now own x k t.0 all)) r.1 s.asks in
        let whole : head ++ mine ≡ asks g = asked_mine ∙ ap (λ (z : List Call). asks (g ++ z)) le ∙ ap (λ (z : List Call). asks z) (append-nil g) in
        let part = part_of end' (asks (g' ++ l')) (wants y) s'.asks in
        let z = asks_parted head mine g whole in
        let mine_is : asks (z.1 ++ l) ++ [] ≡ mine =
        append-nil (asks (z.1 ++ l)) ∙ ap (λ (w : List Call). asks (z.1 ++ w)) le ∙ ap (λ (w : List Call). asks w) (append-nil z.1) ∙ z.4 in
        let given_is : g' ≡ z.0 ++ (z.1 ++ q) = is ∙ ap (λ (w : List Call). w ++ q) z.2 ∙ append_assoc z.0 z.1 q in
        let parted : asks (g' ++ l') ≡ head ++ asks ((z.1 ++ q) ++ l') =
        ap (λ (w : List Call). asks (w ++ l')) given_is ∙ ap (λ (w : List Call). asks w) (append_assoc z.0 (z.1 ++ q) l')
        ∙ map-append (λ (c : Call). c.ask) z.0 ((z.1 ++ q) ++ l') ∙ ap (λ (w : List Ask). w ++ asks ((z.1 ++ q) ++ l')) z.3 in
        let theirs_are : asks ((z.1 ++ q) ++ l') ++ part.rest ≡ theirs =
        sym (append_cancel_left head theirs (asks ((z.1 ++ q) ++ l') ++ part.rest)
        (sym same ∙ part.are ∙ ap (λ (w : List Ask). w ++ part.rest) parted ∙ append_assoc head (asks ((z.1 ++ q) ++ l')) part.rest)) in
        let come : ComesBy end' u.0 now own k = subst (λ (w : SessionSeen). ComesBy end' u.0 (batch_nodes own w.calls p.nodes) own k) like s'.comes in
        let agree : mine ≡ theirs = wants_agree k now own x y t.0 u.0 end end' g g' l l' [] part.rest like (may_known end d' x' may) (may_known end' e' y' may') t.1.ends u.1.ends s.comes come f.gets f'.gets z.0 z.1 (z.1 ++ q) z.2 given_is mine_is theirs_are in
        no_longer z.1 l (z.1 ++ q) l' q part.rest le refl some (sym (append-nil (asks (z.1 ++ l))) ∙ mine_is ∙ agree ∙ sym theirs_are)

    dir_far : t.1.given ≡ u.1.given → t.1.last ≡ u.1.last → did d ≡ did e → OneEndAt end end' d' e' x' y'
    dir_far gs ls same =
        let all : SessionSeen = took x (tolds t.1.given) in
        let all' : SessionSeen = took y (tolds u.1.given) in
        let near : IsAlike all all' = subst (λ (g : List Call). IsAlike all (took y (tolds g))) gs (took_alike x y (tolds t.1.given) like) in
        let p = f.possible in
        let there = possible_less (sees_at d') (sees_at e') all' all (same_sizes is_left others_leave first lib d' e' f.at f'.at) (same_root is_left others_leave first lib d' e' f.at f'.at) (less_alike all' all (alike_back all all' near)) p.nodes p.rows p.are in
        let s = dir_says k d d' x x' end t f may p.nodes p.rows p.are in
        let s' = dir_says k e e' y y' end' u f' may' p.nodes p.rows there in
        let applies : SessionSeen → Reply = λ z. (applied (batch_nodes own z.calls p.nodes) own k 0).reply in
        let r : applies y ≡ applies x = ap applies like in
        let replies = dir_replies k d d' x x' end t f may p.nodes p.rows p.are in
        let ends : end ≡ end' = same_end end end' (same_final end end' t.1.last u.1.last f.final f'.final ls)
        (λ v w i j n m. replies v i n ∙ sym r ∙ sym (dir_replies k e e' y y' end' u f' may' p.nodes p.rows there w j m)) in
        let Now : SessionSeen → Type 0 = λ z. ComesBy end u.0 (batch_nodes own z.calls p.nodes) own k in
        let come : Now y = subst (λ o. ComesBy o u.0 (batch_nodes own y.calls p.nodes) own k) (sym ends) s'.comes in
        let come' : Now x = subst Now like come in
        let left : on_dir.Leaves y.creds k u.0 end all' y' = subst (λ o. on_dir.Leaves y.creds k u.0 o all' y') (sym ends) u.1.leaves in
        let left' : on_dir.Leaves x.creds k u.0 end all' y' = subst (λ (c : Creds). on_dir.Leaves c k u.0 end all' y') (ap (λ (z : SessionSeen). z.creds) like) left in
        record {
          end_same = ends;
          alike = dirs_same k t.0 u.0 (batch_nodes own x.calls p.nodes) own x.creds end all all' x' y' near replies s.comes come' t.1.leaves left';
          did_same = both_did d e d' e' x y end end' t.1.given t.1.last u.1.given u.1.last f f' same gs ls;
        }

  one_dir_at : (k : call.Call) → OneTryAt (DirTried Goes sees_at k)
  one_dir_at k d e d' e' x y x' y' end end' a b same like h h' may may' t u e2 =
      by (facts_at d d' x end t.1.given t.1.last a h t.1.each (final_of end t.1.last (may_known end d' x' may) t.1.ends) t.1.made)
      (facts_at e e' y end' u.1.given u.1.last b h' u.1.each (final_of end' u.1.last (may_known end' e' y' may') u.1.ends) u.1.made)
    where
      by : FactsAt d d' x end t.1.given t.1.last → FactsAt e e' y end' u.1.given u.1.last → OneEndAt end end' d' e' x' y'
      by f f' =
          elim (tries_split d e d' e' x y end end' t.1.given t.1.last u.1.given u.1.last f f' same t.1.each u.1.each e2) [
            | AsFar gs ls ms ↦ dir_far k d e d' e' x y x' y' end end' like may may' t u f f' gs ls same
            | FirstEnds le q is ms some ↦ absurd (dir_first k d e d' e' x y x' y' end end' like may may' t u f f' le q is some)
            | SecondEnds le q is ms some ↦ absurd (dir_first k e d e' d' y x y' x' end' end (alike_back x y like) may' may u t f' f le q is some)
          ]

  -- ---- a change of mode

  -- The last call of a change of mode, part by part: the read leases that it hands back, and then itself. How the call ends goes by it.
  record LastIs (last : List Call) (end : Outcome) : Type 0 where
    back : List Shown
    itself : Call
    parts : all_parts last ≡ map back_call back ++ itself ∷ []
    other : asks_more itself.ask ≡ false
    none_back : is_back itself.ask ≡ false
    ends : last_end itself.told itself.ask ≡ Some end

  mode_last : (all : SessionSeen) (path : Path) (mode : Mode) (comes : Comes) (ungiven last : List Call) (end : Outcome) → end ≢ NoMemory → EndsAs all path mode comes ungiven last end → (comes ≡ BreaksOff) ⊎ LastIs last end
  mode_last all path mode BreaksOff ungiven last end some e = inl refl
  mode_last all path mode (HandsIn reply) ungiven last end some e = inr (by e.1 e.2 e.3)
    where
      by : (told : Told) → last ≡ record { ask = hand_in_ask all (Chmod path mode) reply; told = told } ∷ [] → EndsHandedIn reply told end → LastIs last end
      by Settled is ends = record {
        back = all.reads;
        itself = record { ask = Settle all.parcel [] (record { call = Chmod path mode; reply = reply; made = 0 } ∷ []); told = Settled };
        parts = ap (λ (l : List Call). all_parts l) is ∙ append-nil (parts_of (hand_in_ask all (Chmod path mode) reply) Settled);
        other = refl;
        none_back = refl;
        ends = ap Some (sym ends);
      }
      by NotSettled is ends = absurd (some ends)
      by told is ends = absurd ends
  mode_last all path mode (SetsMode ino) ungiven last end some e = inr (by e.1 e.2 e.3)
    where
      by : (told : Told) → last ≡ record { ask = mode_ask all ino mode (Chmod path mode); told = told } ∷ [] → EndsModed told end → LastIs last end
      by ModeSet is ends = record {
        back = all.reads;
        itself = record { ask = SetMode ino mode.0 [] (Some (Chmod path mode)); told = ModeSet };
        parts = ap (λ (l : List Call). all_parts l) is ∙ append-nil (parts_of (mode_ask all ino mode (Chmod path mode)) ModeSet);
        other = refl;
        none_back = refl;
        ends = ap Some (sym ends);
      }
      by (NotModeSet (BusyMode holder)) is ends = record {
        back = [];
        itself = record { ask = mode_ask all ino mode (Chmod path mode); told = NotModeSet (BusyMode holder) };
        parts = ap (λ (l : List Call). all_parts l) is;
        other = refl;
        none_back = refl;
        ends = ap Some (sym ends);
      }
      by (NotModeSet NoModeMemory) is ends = absurd (some ends)
      by told is ends = absurd ends

  last_of : (comes : Comes) (last : List Call) (end : Outcome) → (comes ≡ BreaksOff → ⊥) → (comes ≡ BreaksOff) ⊎ LastIs last end → LastIs last end
  last_of comes last end on (inl off) = absurd (on off)
  last_of comes last end on (inr l) = l

  -- a try that asks no more isn't broken off
  ends_off : (all : SessionSeen) (path : Path) (mode : Mode) (comes : Comes) (ungiven last : List Call) (end : Outcome) → comes ≡ BreaksOff → EndsAs all path mode comes ungiven last end → Final (stage comes end) ungiven → ungiven ≡ [] → ⊥
  ends_off all path mode BreaksOff ungiven last end off e f none = by (none_replied end ungiven f none)
    where
      by : (a : Reply) × (end ≡ Replied a) → ⊥
      by r = subst (λ o. EndsBroken o ungiven) r.1 e.1
  ends_off all path mode (HandsIn reply) ungiven last end off e f none = cc off
  ends_off all path mode (SetsMode ino) ungiven last end off e f none = cc off

  module _ (path : Path) (mode : Mode) (d e d' e' : Going) (x y x' y' : SessionSeen) (end end' : Outcome) (like : IsAlike x y) (some : end ≢ NoMemory) (some' : end' ≢ NoMemory) (t : ChmodTried Goes sees_at path mode d x end d' x') (u : ChmodTried Goes sees_at path mode e y end' e' y') where
    mode_final : Final (stage t.comes end) t.ungiven
    mode_final = stage_final (lent_to x t.given) path mode t.comes t.ungiven t.last end some t.ends

    mode_final' : Final (stage u.comes end') u.ungiven
    mode_final' = stage_final (lent_to y u.given) path mode u.comes u.ungiven u.last end' some' u.ends

    -- the one can't end where the other goes on
    mode_first : (more others : List Call) → t.ungiven ≡ [] → (q : List Call) → u.given ≡ t.given ++ q → all_parts t.last ++ more ≡ (q ++ u.ungiven) ++ others → (q ++ u.ungiven ≡ [] → ⊥)
        → ((c : Call) → In c u.given → Gets c.ask c.told) → ⊥
    mode_first more others none q is e2 goes_on gets =
        elim (mode_last (lent_to x t.given) path mode t.comes t.ungiven t.last end some t.ends) [
          | inl off ↦ ends_off (lent_to x t.given) path mode t.comes t.ungiven t.last end off t.ends mode_final none
          | inr l ↦ by l q u.ungiven (λ c i. gets c (subst (λ (z : List Call). In c z) (sym is) (In-right c t.given q i))) mode_final' (ap (λ (z : List Call). z ++ more) (sym l.parts) ∙ e2) goes_on
        ]
      where
        by : (l : LastIs t.last end) (q ungiven : List Call) → ((c : Call) → In c q → Gets c.ask c.told) → Final (stage u.comes end') ungiven → (map back_call l.back ++ l.itself ∷ []) ++ more ≡ (q ++ ungiven) ++ others → (q ++ ungiven ≡ [] → ⊥) → ⊥
        by l [] [] gets f e3 goes_on = goes_on refl
        by l [] (c ∷ cs) gets f e3 goes_on = no_more_asks l.back l.itself more c (cs ++ others) l.other (gets_more c.ask c.told (final_gets (stage u.comes end') (c ∷ cs) f c (inl refl))) e3
        by l (c ∷ q) ungiven gets f e3 goes_on = no_more_asks l.back l.itself more c ((q ++ ungiven) ++ others) l.other (gets_more c.ask c.told (gets c (inl refl))) e3

    -- they end the same, by the same last call
    mode_ends : (more others : List Call) → t.ungiven ≡ u.ungiven → all_parts t.last ++ more ≡ all_parts u.last ++ others → (end ≡ end') × (all_parts t.last ≡ all_parts u.last)
    mode_ends more others us e2 =
        by t.comes u.comes (same_final (stage t.comes end) (stage u.comes end') t.ungiven u.ungiven mode_final mode_final' us) t.ends u.ends
        (mode_last (lent_to x t.given) path mode t.comes t.ungiven t.last end some t.ends) (mode_last (lent_to y u.given) path mode u.comes u.ungiven u.last end' some' u.ends)
      where
        both : LastIs t.last end → LastIs u.last end' → (end ≡ end') × (all_parts t.last ≡ all_parts u.last)
        both l m =
            let same = leads l.back m.back l.itself m.itself more others l.none_back m.none_back (ap (λ (z : List Call). z ++ more) (sym l.parts) ∙ e2 ∙ ap (λ (z : List Call). z ++ others) m.parts) in
            let ends : Some end ≡ Some end' = sym l.ends ∙ ap (λ (c : Call). last_end c.told c.ask) same.1 ∙ m.ends in
            (cc ends, l.parts ∙ ap (λ (b : List Shown). map back_call b ++ l.itself ∷ []) same.0 ∙ ap (λ (c : Call). map back_call m.back ++ c ∷ []) same.1 ∙ sym m.parts)

        by : (c c' : Comes) → SameEnd (stage c end) (stage c' end') → EndsAs (lent_to x t.given) path mode c t.ungiven t.last end → EndsAs (lent_to y u.given) path mode c' u.ungiven u.last end' → (c ≡ BreaksOff) ⊎ LastIs t.last end → (c' ≡ BreaksOff) ⊎ LastIs u.last end'
            → (end ≡ end') × (all_parts t.last ≡ all_parts u.last)
        by BreaksOff BreaksOff ends a b l m = (broken_same end end' t.ungiven ends a.1, ap (λ (z : List Call). all_parts z) (a.0 ∙ sym b.0))
        by BreaksOff (HandsIn reply) ends a b l m = absurd (broken_off end (Replied Denied) t.ungiven Denied ends a.1 refl)
        by BreaksOff (SetsMode ino) ends a b l m = absurd (broken_off end (Replied Denied) t.ungiven Denied ends a.1 refl)
        by (HandsIn reply) BreaksOff ends a b l m = absurd (broken_off end' (Replied Denied) u.ungiven Denied (same_back (Replied Denied) end' ends) b.1 refl)
        by (SetsMode ino) BreaksOff ends a b l m = absurd (broken_off end' (Replied Denied) u.ungiven Denied (same_back (Replied Denied) end' ends) b.1 refl)
        by (HandsIn r) (HandsIn r') ends a b l m = both (last_of (HandsIn r) t.last end (λ w. cc w) l) (last_of (HandsIn r') u.last end' (λ w. cc w) m)
        by (HandsIn r) (SetsMode ino) ends a b l m = both (last_of (HandsIn r) t.last end (λ w. cc w) l) (last_of (SetsMode ino) u.last end' (λ w. cc w) m)
        by (SetsMode ino) (HandsIn r') ends a b l m = both (last_of (SetsMode ino) t.last end (λ w. cc w) l) (last_of (HandsIn r') u.last end' (λ w. cc w) m)
        by (SetsMode ino) (SetsMode ino') ends a b l m = both (last_of (SetsMode ino) t.last end (λ w. cc w) l) (last_of (SetsMode ino') u.last end' (λ w. cc w) m)

  one_mode_at : (path : Path) (mode : Mode) → OneTryAt (ChmodTried Goes sees_at path mode)
  one_mode_at path mode d e d' e' x y x' y' end end' a b same like h h' may may' t u e2 =
      by (calls_parted Goes (t.given ++ t.ungiven) t.last d d' t.made) (calls_parted Goes (u.given ++ u.ungiven) u.last e e' u.made)
    where
      some : end ≢ NoMemory
      some = may_known end d' x' may

      some' : end' ≢ NoMemory
      some' = may_known end' e' y' may'

      grown : (g g' m : Going) (last : List Call) (end : Outcome) (given ungiven : List Call) → ((c : Call) → In c given → IsGiven c) → Final end ungiven → desk.Calls Goes g (given ++ ungiven) m → desk.Calls Goes m last g' → did g' ≡ did g ++ ((given ++ ungiven) ++ all_parts last)
      grown g g' m last end given ungiven each f one two =
          let gets = all_get is_left others_leave first lib given ungiven g m each one in
          let whole : all_parts (given ++ ungiven) ≡ given ++ ungiven =
          gets_parts (given ++ ungiven) (λ c i. elim (In-cases c given ungiven i) [ inl j ↦ gets c j | inr j ↦ final_gets end ungiven f c j ]) in
          did_calls last m g' two ∙ ap (λ (l : List Call). l ++ all_parts last) (did_calls (given ++ ungiven) g m one ∙ ap (λ (l : List Call). did g ++ l) whole)
          ∙ append_assoc (did g) (given ++ ungiven) (all_parts last)

      by : (m : Going) × desk.Calls Goes d (t.given ++ t.ungiven) m × desk.Calls Goes m t.last d' → (n : Going) × desk.Calls Goes e (u.given ++ u.ungiven) n × desk.Calls Goes n u.last e' → OneEndAt end end' d' e' x' y'
      by p q =
          let f = mode_final path mode d e d' e' x y x' y' end end' like some some' t u in
          let f' = mode_final' path mode d e d' e' x y x' y' end end' like some some' t u in
          let grew = grown d d' p.0 t.last (stage t.comes end) t.given t.ungiven t.each f p.1 p.2 in
          let grew' = grown e e' q.0 u.last (stage u.comes end') u.given u.ungiven u.each f' q.1 q.2 in
          let gets = all_get is_left others_leave first lib t.given t.ungiven d p.0 t.each p.1 in
          let gets' = all_get is_left others_leave first lib u.given u.ungiven e q.0 u.each q.1 in
          let mine : List Call = t.given ++ t.ungiven in
          let theirs : List Call = u.given ++ u.ungiven in
          let lists : mine ++ (all_parts t.last ++ e2.0) ≡ theirs ++ (all_parts u.last ++ e2.1) =
          sym (append_assoc mine (all_parts t.last) e2.0)
          ∙ behind_same (did d) (did e) (mine ++ all_parts t.last) (theirs ++ all_parts u.last) e2.0 e2.1 same (ap (λ (l : List Call). l ++ e2.0) (sym grew) ∙ e2.2 ∙ ap (λ (l : List Call). l ++ e2.1) grew')
          ∙ append_assoc theirs (all_parts u.last) e2.1 in
          elim (split t.given t.ungiven (all_parts t.last ++ e2.0) u.given u.ungiven (all_parts u.last ++ e2.1) (stage t.comes end) (stage u.comes end') t.each u.each f f' lists) [
            | AsFar gs us ms ↦
                (let r = mode_ends path mode d e d' e' x y x' y' end end' like some some' t u e2.0 e2.1 us ms in
                let all : SessionSeen = lent_to x t.given in
                let all' : SessionSeen = lent_to y u.given in
                let near : IsAlike all all' = subst (λ (g : List Call). IsAlike all (lent_to y g)) gs (took_alike x y (tolds t.given) like) in
                record {
                  end_same = r.0;
                  alike = left_alike end all all' x' y' near t.leaves (subst (λ o. LeavesBy all' o y') (sym r.0) u.leaves);
                  did_same = grew ∙ ap (λ (l : List Call). l ++ (mine ++ all_parts t.last)) same ∙ ap (λ (l : List Call). did e ++ ((l ++ t.ungiven) ++ all_parts t.last)) gs
                      ∙ ap (λ (l : List Call). did e ++ ((u.given ++ l) ++ all_parts t.last)) us ∙ ap (λ (l : List Call). did e ++ (theirs ++ l)) r.1 ∙ sym grew';
                })
            | FirstEnds le g is ms goes_on ↦ absurd (mode_first path mode d e d' e' x y x' y' end end' like some some' t u e2.0 (all_parts u.last ++ e2.1) le g is ms goes_on gets')
            | SecondEnds le g is ms goes_on ↦ absurd (mode_first path mode e d e' d' y x y' x' end' end (alike_back x y like) some' some u t e2.1 (all_parts t.last ++ e2.0) le g is ms goes_on gets)
          ]

  -- ---- tries, one after another, and the settles between them

  at_settle : (d d' : Going) (x x' : SessionSeen) → AtSeat first lib d → Settles Goes d x d' x' → AtSeat first lib d'
  at_settle d d' x x' a t = at_goes is_left others_leave first lib d (Settle x.parcel x.reads x.calls) Settled d' a t.made

  module _ (Try : Going → SessionSeen → Outcome → Going → SessionSeen → Type 0) (one_try : OneTryAt Try) (calls_of : (d d' : Going) (x x' : SessionSeen) (end : Outcome) → Try d x end d' x' → (cs : List Call) × desk.Calls Goes d cs d') where
    try_grew : (d d' : Going) (x x' : SessionSeen) (end : Outcome) → Try d x end d' x' → Grew d d'
    try_grew d d' x x' end t = (let c = calls_of d d' x x' end t in (all_parts c.0, did_calls c.0 d d' c.1))

    at_try : (d d' : Going) (x x' : SessionSeen) (end : Outcome) → AtSeat first lib d → Try d x end d' x' → AtSeat first lib d'
    at_try d d' x x' end a t = (let c = calls_of d d' x x' end t in at_calls is_left others_leave first lib c.0 d d' a c.1)

    -- a try, and what comes after it
    again_grew : (d1 d2 d' : Going) (x1 x2 x' : SessionSeen) (end : Outcome) → Settles Goes d1 x1 d2 x2 → Try d2 x2 end d' x' → Grew d1 d'
    again_grew d1 d2 d' x1 x2 x' end t u = grew_then d1 d2 d' (settle_grew d1 d2 x1 x2 t) (try_grew d2 d' x2 x' end u)

    -- both are busy, and settle
    record BothBusy (holder holder' : Holder) (d2 e2 : Going) (x2 y2 : SessionSeen) : Type 0 where
      same_holder : holder ≡ holder'
      settled : OneSettleAt d2 e2 x2 y2
      at : AtSeat first lib d2
      at' : AtSeat first lib e2
      exact : Exact (sees_at d2).out x2
      exact' : Exact (sees_at e2).out y2

    busy_both : (d e d1 e1 d2 e2 : Going) (x y x1 y1 x2 y2 : SessionSeen) (holder holder' : Holder)
        → AtSeat first lib d → AtSeat first lib e → did d ≡ did e → IsAlike x y → Exact (sees_at d).out x → Exact (sees_at e).out y
        → Try d x (Busy holder) d1 x1 → Settles Goes d1 x1 d2 x2 → Try e y (Busy holder') e1 y1 → Settles Goes e1 y1 e2 y2 → Ahead d2 e2 → BothBusy holder holder' d2 e2 x2 y2
    busy_both d e d1 e1 d2 e2 x y x1 y1 x2 y2 holder holder' a b same like h h' t s t' s' more =
        let o = one_try d e d1 e1 x y x1 y1 (Busy holder) (Busy holder') a b same like h h' tt tt t t' (ahead d1 d2 e1 e2 (settle_grew d1 d2 x1 x2 s) (settle_grew e1 e2 y1 y2 s') more) in
        let is : Busy holder ≡ Busy holder' = o.end_same in
        record {
          same_holder = cc is;
          settled = settles_same d1 e1 d2 e2 x1 y1 x2 y2 o.did_same o.alike s s';
          at = at_settle d1 d2 x1 x2 (at_try d d1 x x1 (Busy holder) a t) s;
          at' = at_settle e1 e2 y1 y2 (at_try e e1 y y1 (Busy holder') b t') s';
          exact = seat_settled is_left others_leave first lib d1 d2 x1 x2 s;
          exact' = seat_settled is_left others_leave first lib e1 e2 y1 y2 s';
        }

    -- it is the law of the one try, where the other doesn't end by it
    one_ends : (d e d1 e1 : Going) (x y x1 y1 : SessionSeen) (end : Outcome) (holder : Holder)
        → AtSeat first lib d → AtSeat first lib e → did d ≡ did e → IsAlike x y → Exact (sees_at d).out x → Exact (sees_at e).out y
        → IsNotBusy end → MayAt end e1 y1 → Try d x (Busy holder) d1 x1 → Try e y end e1 y1 → Ahead d1 e1 → ⊥
    one_ends d e d1 e1 x y x1 y1 end holder a b same like h h' real may t t' more =
        not_busy holder end real (one_try d e d1 e1 x y x1 y1 (Busy holder) end a b same like h h' tt may t t' more).end_same

    ahead_back : (g h : Going) → Ahead g h → Ahead h g
    ahead_back g h e = (e.1, e.0, sym e.2)

    one_call_at : (d e d' e' : Going) (x y x' y' : SessionSeen) (end end' : Outcome)
        → AtSeat first lib d → AtSeat first lib e → did d ≡ did e → IsAlike x y → Exact (sees_at d).out x → Exact (sees_at e).out y
        → MayAt end d' x' → MayAt end' e' y' → Called Goes Try d x end d' x' → Called Goes Try e y end' e' y' → Ahead d' e' → OneEndAt end end' d' e' x' y'
    one_call_at d e d' e' x y x' y' end end' a b same like h h' may may' (Unsettled holder d1 x1 none t u) c more = absurd (may_known end d' x' may none)
    one_call_at d e d' e' x y x' y' end end' a b same like h h' may may' (LeftOut holder k d1 d2 d3 x1 x2 x3 none t u v w) c more = absurd (may_known end d' x' may none)
    one_call_at d e d' e' x y x' y' end end' a b same like h h' may may' c (Unsettled holder d1 x1 none t u) more = absurd (may_known end' e' y' may' none)
    one_call_at d e d' e' x y x' y' end end' a b same like h h' may may' c (LeftOut holder k d1 d2 d3 x1 x2 x3 none t u v w) more = absurd (may_known end' e' y' may' none)
    one_call_at d e d' e' x y x' y' end end' a b same like h h' may may' (Once real t) (Once real' t') more = one_try d e d' e' x y x' y' end end' a b same like h h' may may' t t' more
    one_call_at d e d' e' x y x' y' end end' a b same like h h' may may' (Once real t) (Again k e1 e2 y1 y2 real' t' u' v') more =
        absurd (one_ends e d e1 d' y x y1 x' end k b a (sym same) (alike_back x y like) h' h real may t' t
        (ahead_back d' e1 (ahead d' d' e1 e' (grew_none d') (again_grew e1 e2 e' y1 y2 y' end' u' v') more)))
    one_call_at d e d' e' x y x' y' end end' a b same like h h' may may' (Once real t) (GivesUp k j e1 e2 e3 y1 y2 y3 busy other t' u' v' w') more =
        absurd (one_ends e d e1 d' y x y1 x' end k b a (sym same) (alike_back x y like) h' h real may t' t
        (ahead_back d' e1 (ahead d' d' e1 e' (grew_none d') (grew_then e1 e3 e' (again_grew e1 e2 e3 y1 y2 y3 (Busy j) u' v') (settle_grew e3 e' y3 y' w')) more)))
    one_call_at d e d' e' x y x' y' end end' a b same like h h' may may' (Again k d1 d2 x1 x2 real t u v) (Once real' t') more =
        absurd (one_ends d e d1 e' x y x1 y' end' k a b same like h h' real' may' t t' (ahead d1 d' e' e' (again_grew d1 d2 d' x1 x2 x' end u v) (grew_none e') more))
    one_call_at d e d' e' x y x' y' end end' a b same like h h' may may' (GivesUp k j d1 d2 d3 x1 x2 x3 busy other t u v w) (Once real' t') more =
        absurd (one_ends d e d1 e' x y x1 y' end' k a b same like h h' real' may' t t'
        (ahead d1 d' e' e' (grew_then d1 d3 d' (again_grew d1 d2 d3 x1 x2 x3 (Busy j) u v) (settle_grew d3 d' x3 x' w)) (grew_none e') more))
    one_call_at d e d' e' x y x' y' end end' a b same like h h' may may' (Again k d1 d2 x1 x2 real t u v) (Again k' e1 e2 y1 y2 real' t' u' v') more =
        let s = busy_both d e d1 e1 d2 e2 x y x1 y1 x2 y2 k k' a b same like h h' t u t' u' (ahead d2 d' e2 e' (try_grew d2 d' x2 x' end v) (try_grew e2 e' y2 y' end' v') more) in
        one_try d2 e2 d' e' x2 y2 x' y' end end' s.at s.at' s.settled.did_same s.settled.alike s.exact s.exact' may may' v v' more
    one_call_at d e d' e' x y x' y' end end' a b same like h h' may may' (Again k d1 d2 x1 x2 real t u v) (GivesUp k' j' e1 e2 e3 y1 y2 y3 busy' other' t' u' v' w') more =
        let now = ahead d' d' e3 e' (grew_none d') (settle_grew e3 e' y3 y' w') more in
        let s = busy_both d e d1 e1 d2 e2 x y x1 y1 x2 y2 k k' a b same like h h' t u t' u' (ahead d2 d' e2 e3 (try_grew d2 d' x2 x' end v) (try_grew e2 e3 y2 y3 (Busy j') v') now) in
        absurd (one_ends e2 d2 e3 d' y2 x2 y3 x' end j' s.at' s.at (sym s.settled.did_same) (alike_back x2 y2 s.settled.alike) s.exact' s.exact real may v' v (ahead_back d' e3 now))
    one_call_at d e d' e' x y x' y' end end' a b same like h h' may may' (GivesUp k j d1 d2 d3 x1 x2 x3 busy other t u v w) (Again k' e1 e2 y1 y2 real' t' u' v') more =
        let now = ahead d3 d' e' e' (settle_grew d3 d' x3 x' w) (grew_none e') more in
        let s = busy_both d e d1 e1 d2 e2 x y x1 y1 x2 y2 k k' a b same like h h' t u t' u' (ahead d2 d3 e2 e' (try_grew d2 d3 x2 x3 (Busy j) v) (try_grew e2 e' y2 y' end' v') now) in
        absurd (one_ends d2 e2 d3 e' x2 y2 x3 y' end' j s.at s.at' s.settled.did_same s.settled.alike s.exact s.exact' real' may' v v' now)
    one_call_at d e d' e' x y x' y' end end' a b same like h h' may may' (GivesUp k j d1 d2 d3 x1 x2 x3 busy other t u v w) (GivesUp k' j' e1 e2 e3 y1 y2 y3 busy' other' t' u' v' w') more =
        let now = ahead d3 d' e3 e' (settle_grew d3 d' x3 x' w) (settle_grew e3 e' y3 y' w') more in
        let s = busy_both d e d1 e1 d2 e2 x y x1 y1 x2 y2 k k' a b same like h h' t u t' u' (ahead d2 d3 e2 e3 (try_grew d2 d3 x2 x3 (Busy j) v) (try_grew e2 e3 y2 y3 (Busy j') v') now) in
        let r = busy_both d2 e2 d3 e3 d' e' x2 y2 x3 y3 x' y' j j' s.at s.at' s.settled.did_same s.settled.alike s.exact s.exact' v w v' w' more in
        record { end_same = busy ∙ ap Busy r.same_holder ∙ sym busy'; alike = r.settled.alike; did_same = r.settled.did_same }

  -- ---- a line

  record OneLineAt (told told' : LineAnswer) (d' e' : Going) (x' y' : SessionSeen) : Type 0 where
    told_same : told ≡ told'
    alike : IsAlike x' y'
    did_same : did d' ≡ did e'

  module _ (d e d' e' : Going) (x y x' y' : SessionSeen) (a : AtSeat first lib d) (b : AtSeat first lib e) (same : did d ≡ did e) (like : IsAlike x y) (may : MayCall (sees_at d) x) (may' : MayCall (sees_at e) y) (more : Ahead d' e') where
    leased_at : (k : call.Call) (end end' : Outcome) → MayAt end d' x' → MayAt end' e' y' → (c : Bool) → MatchBool c (EntryCalled Goes sees_at d x k end d' x') (FileCalled Goes sees_at d x k end d' x') → MatchBool c (EntryCalled Goes sees_at e y k end' e' y') (FileCalled Goes sees_at e y k end' e' y')
        → OneEndAt end end' d' e' x' y'
    leased_at k end end' m m' true p q =
        one_call_at (DirTried Goes sees_at k) (one_dir_at k) (λ d d' x x' end t. (t.1.given ++ t.1.last, t.1.made)) d e d' e' x y x' y' end end' a b same like (may_exact (sees_at d) x may) (may_exact (sees_at e) y may') m m' p q more
    leased_at k end end' m m' false p q =
        one_call_at (FileTried Goes sees_at k) (one_file_at k) (λ d d' x x' end t. (t.1.given ++ t.1.last, t.1.made)) d e d' e' x y x' y' end end' a b same like (may_exact (sees_at d) x may) (may_exact (sees_at e) y may') m m' p q more

    chmod_at : (path : Path) (mode : Mode) (end end' : Outcome) → MayAt end d' x' → MayAt end' e' y' → ChmodCalled Goes sees_at d x path mode end d' x' → ChmodCalled Goes sees_at e y path mode end' e' y' → OneEndAt end end' d' e' x' y'
    chmod_at path mode end end' m m' (Unbegun none u) q = absurd (may_known end d' x' m none)
    chmod_at path mode end end' m m' p (Unbegun none u) = absurd (may_known end' e' y' m' none)
    chmod_at path mode end end' m m' (Begun d1 x1 t p) (Begun e1 y1 u q) =
        let s = settles_same d e d1 e1 x y x1 y1 same like t u in
        one_call_at (ChmodTried Goes sees_at path mode) (one_mode_at path mode) (λ d d' x x' end t. ((t.given ++ t.ungiven) ++ t.last, t.made)) d1 e1 d' e' x1 y1 x' y' end end' (at_settle d d1 x x1 a t) (at_settle e e1 y y1 b u) s.did_same s.alike
        (seat_settled is_left others_leave first lib d d1 x x1 t) (seat_settled is_left others_leave first lib e e1 y y1 u) m m' p q more

    session_at : (k : call.Call) (end end' : Outcome) → MayAt end d' x' → MayAt end' e' y' → SessionCalled Goes sees_at d x k end d' x' → SessionCalled Goes sees_at e y k end' e' y' → OneEndAt end end' d' e' x' y'
    session_at (Chmod path mode) end end' m m' p q = chmod_at path mode end end' m m' p q
    session_at k end end' m m' p q = leased_at k end end' m m' (is_dir_call k) p q

    line_at : (line : HonestLine) (told told' : LineAnswer) → HonestComes Goes sees_at d x line told d' x' → HonestComes Goes sees_at e y line told' e' y' → OneLineAt told told' d' e' x' y'
    line_at (CallLine k) told told' p q =
        let o = session_at k p.end q.end (may_told p.end told d' x' p.told_is p.may) (may_told q.end told' e' y' q.told_is q.may) p.made q.made in
        let tolds : Some told ≡ Some told' = sym p.told_is ∙ ap told_outcome o.end_same ∙ q.told_is in
        record { told_same = cc tolds; alike = o.alike; did_same = o.did_same }
    line_at SettleLine told told' p q =
        let s = settles_same d e d' e' x y x' y' same like p.0 q.0 in
        record { told_same = p.1 ∙ sym (ap (λ (z : SessionSeen). answered.Settled (length z.calls)) like) ∙ sym q.1; alike = s.alike; did_same = s.did_same }

  -- ---- turns

  -- two places of one library: in sessions that are alike, told the same, after the same calls
  record AtOne (p q : Place) : Type 0 where
    x : SessionSeen
    y : SessionSeen
    is : p.share ≡ InSession x
    is' : q.share ≡ InSession y
    alike : IsAlike x y
    told_same : p.told ≡ q.told
    did_same : did p.going ≡ did q.going

  turn_at : (turn : Turn) (g h : Going) (x y : SessionSeen) (told told' : Heard) (p q : Place) → AtSeat first lib g → AtSeat first lib h → did g ≡ did h → IsAlike x y → told ≡ told' → MayCall (sees_at g) x → MayCall (sees_at h) y
      → TurnGoes turn g (InSession x) told p.going p.share p.told → TurnGoes turn h (InSession y) told' q.going q.share q.told → Ahead p.going q.going → AtOne p q
  turn_at turn g h x y told told' p q a b same like heard may may' goes goes' more = by turn p.share refl q.share refl goes goes'
    where
      by : (turn : Turn) (s : Share) → p.share ≡ s → (s' : Share) → q.share ≡ s' → TurnGoes turn g (InSession x) told p.going s p.told → TurnGoes turn h (InSession y) told' q.going s' q.told → AtOne p q
      by (SaysHonest line) (InSession x') is (InSession y') is' c d =
          let o = line_at g h p.going q.going x y x' y' a b same like may may' more line.line c.0 d.0 c.1 d.1 in
          record {
            x = x';
            y = y';
            is = is;
            is' = is';
            alike = o.alike;
            told_same = c.2 ∙ ap (with_answer told) o.told_same ∙ ap (λ (z : Heard). with_answer z d.0) heard ∙ sym d.2;
            did_same = o.did_same;
          }
      by Ends (InSession x') is (InSession y') is' c d =
          let s = settles_same g h p.going q.going x y x' y' same like c.0 d.0 in
          record {
            x = x';
            y = y';
            is = is;
            is' = is';
            alike = s.alike;
            told_same = c.1 ∙ sym (ap (λ (z : SessionSeen). with_end told (EndSettled (length z.calls))) like) ∙ ap (λ (z : Heard). with_end z (EndSettled (length y.calls))) heard ∙ sym d.1;
            did_same = s.did_same;
          }
      by (SaysHonest line) (Things has) is s' is' c d = absurd c
      by (SaysHonest line) (InSession x') is (Things has) is' c d = absurd d
      by Ends (Things has) is s' is' c d = absurd c
      by Ends (InSession x') is (Things has) is' c d = absurd d
      by (Says line) s is s' is' c d = absurd c

  -- so it is told the same all along
  pub course_at : (turns : List Turn) (p p' q q' : Place) (x y : SessionSeen) → AtSeat first lib p.going → AtSeat first lib q.going → p.share ≡ InSession x → q.share ≡ InSession y → IsAlike x y → p.told ≡ q.told → did p.going ≡ did q.going
      → MayCall (sees_at p.going) x → MayCall (sees_at q.going) y → CourseGoes p turns p' → CourseGoes q turns q' → did p'.going ≡ did q'.going → p'.told ≡ q'.told
  course_at [] p p' q q' x y a b is is' like heard same may may' one two all = ap (λ (z : Place). z.told) one ∙ heard ∙ sym (ap (λ (z : Place). z.told) two)
  course_at (turn ∷ turns) p p' q q' x y a b is is' like heard same may may' one two all =
      let m : Place = one.0 in
      let n : Place = two.0 in
      let c : TurnGoes turn p.going (InSession x) p.told m.going m.share m.told = subst (λ (s : Share). TurnGoes turn p.going s p.told m.going m.share m.told) is one.1 in
      let d : TurnGoes turn q.going (InSession y) q.told n.going n.share n.told = subst (λ (s : Share). TurnGoes turn q.going s q.told n.going n.share n.told) is' two.1 in
      let grew = grew_more m.going p'.going (course_keeps (HasMore m.going.calls) (more_stays m.going.calls) m turns p' ([], sym (append-nil m.going.calls)) one.2) in
      let grew' = grew_more n.going q'.going (course_keeps (HasMore n.going.calls) (more_stays n.going.calls) n turns q' ([], sym (append-nil n.going.calls)) two.2) in
      let end : Ahead p'.going q'.going = ([], [], append-nil (did p'.going) ∙ all ∙ sym (append-nil (did q'.going))) in
      let o = turn_at turn p.going q.going x y p.told q.told m n a b same like heard may may' c d (ahead m.going p'.going n.going q'.going grew grew' end) in
      let a' = turn_keeps (AtSeat first lib) (at_goes is_left others_leave first lib) turn p.going p.share p.told m.going m.share m.told a one.1 in
      let b' = turn_keeps (AtSeat first lib) (at_goes is_left others_leave first lib) turn q.going q.share q.told n.going n.share n.told b two.1 in
      let holds = turn_holds is_left others_leave turn p.going (InSession x) p.told m.going m.share m.told may c in
      let holds' = turn_holds is_left others_leave turn q.going (InSession y) q.told n.going n.share n.told may' d in
      course_at turns m p' n q' o.x o.y a' b' o.is o.is' o.alike o.told_same o.did_same (subst (HoldsAt (sees_at m.going)) o.is holds) (subst (HoldsAt (sees_at n.going)) o.is' holds') one.2 two.2 all
