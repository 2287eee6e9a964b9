-- Between turns each library has all that is out to it, and nothing is out to anybody else.
use Rattle.trio_runner.proofs.Words.{◌&&◌, ◌++◌, ◌-◌, ◌∙◌, ◌∷◌, ◌≡◌, ◌≤◌, Allot, AllotLine, Alone, AreMoves, Ask, Asks, BackLine, Bool, Call, CallLine, Creds, DeskSeen, Done, EndAnswer, EndComes, Ends, EndsAll, EndsAlone, GiveBack, Given, Grant, GrantKind, GrantLine, Happens, Has, HasAll, Heard, Hold, HoldsAll, HonestComes, HonestLine, In, InSession, IsHeld, IsLibrary, IsSomeAnd, Judged, Kept, Lease, LeaseIs, Lent, LentWhole, LibNo, LibOut, LineAnswer, LineComes, List, MatchOption, MayCall, ModeLine, ModeSet, Move, None, NotGiven, NotJudged, NotLent, NotModeSet, NotSettled, Noted, Notes, Ok, OpenGrant, Option, OutAlike, Peek, Placed, Players, Poke, RawLine, Read, Release, ReleaseLine, Row, Says, SaysHonest, SeenAfter, SessionSeen, SetMode, Settle, SettleLine, Settled, Settles, Share, Shown, Some, State, TakesTurn, Things, Told, Turn, TurnComes, Write, [], and_parts, ap, append-nil, append_assoc, arith, back_calls, begins_to_call, both_ways, cases_Bool, cond, desk_of, emptied, eq-eqb, eqb, eqb-true, false, false≢true, find-In, get_or, has_after, has_all_of, has_nothing, inl, inr, length, length-set, lent_by, may_be_settled, no_lib_out, nothing, opened, option_map, out_after, out_of, parcel_named, poked, read_on, refl, release_call, row_at, sees, set, share_of, subst, sym, told_of, told_to, true, unnoted, with_reads, without_read, ℕ, ⊤}
use Rattle.std.proofs.Math.Dec.{eqb-suc-zero}
use Rattle.std.proofs.lemmas.Bool.{MatchBool-at_true, MatchBool-at_false}
use Rattle.std.proofs.lemmas.List.{get_or-set_other, get_or-set_same}
use Rattle.trio_desk.specs.Out as out_words
use Rattle.trio_ctl.specs.Open.{given_by}
use Rattle.trio_raw.proofs.Asking.{mode_alike}
use Rattle.trio_runner.specs.Line.{has_alone, has_poked}
use Rattle.trio_ctl.proofs.Settling.{settle_seen}
use Rattle.trio_runner.proofs.CallLeaves.{Fits, call_leaves}
use Rattle.trio_runner.proofs.Moves.{Stands, call_stands, moves_creds, moves_others, moves_stand}
use Rattle.trio_runner.proofs.Outs.{AsLent, has_all-alike, has_all-allotted, has_all-back, has_all-last, has_all-lease, has_all-poked, has_all-rest, has_all-returned, has_all-whole}

-- a lease stands as it was lent when it is given
given_as_lent : (kind : GrantKind) (g : OpenGrant) → AsLent (given_by kind g)
given_as_lent Read g = tt
given_as_lent Write g = refl
given_as_lent Hold g = tt

lent_as_lent : (s : State) (lib ino : ℕ) (kind : GrantKind) (lease : Lease) (o : Option Row) → IsSomeAnd o (λ r. lease ≡ lent_by (opened s lib ino kind r)) → AsLent lease
lent_as_lent s lib ino kind lease None is = absurd is
lent_as_lent s lib ino kind lease (Some r) is = subst AsLent (sym is) (given_as_lent kind (opened s lib ino kind r))

has_all-alone : (out : LibOut) (has : Has) (said : RawLine) → HasAll out has → HasAll out (has_alone has said)
has_all-alone out has (GrantLine ino kind) h = h
has_all-alone out has (AllotLine wanted many) h = h
has_all-alone out has (BackLine ino) h = h
has_all-alone out has (Peek at offset len) h = h
has_all-alone out has (ReleaseLine inos pages numbers) h = h
has_all-alone out has (ModeLine ino mode) h = h
has_all-alone out has (Poke at offset bytes) h = by (poked has at offset bytes) refl
  where
    by : (o : Option Has) → poked has at offset bytes ≡ o → HasAll out (has_poked has o)
    by None e = h
    by (Some after) e = has_all-poked out has after at offset bytes e h

-- ---- what calls leave

-- a lease that is told was lent as it stands
abbrev pub LentSo : Ask → Told → Type 0
LentSo (Grant ino kind) (Lent lease) = AsLent lease
LentSo ask told = ⊤

-- a call leaves this out to its library
pub record CallLeaves (out : LibOut) (ask : Ask) (told : Told) (out' : LibOut) : Type 0 where
  pub alike : Fits ask told → OutAlike out' (out_after out ask told)
  pub lent : LentSo ask told

-- calls do, one after another
abbrev pub Leave : LibOut → List Call → LibOut → Type 0
Leave out [] out' = out' ≡ out
Leave out (c ∷ calls) out' = (middle : LibOut) × CallLeaves out c.ask c.told middle × Leave middle calls out'

lent_so : (s : State) (lib : LibNo) (ask : Ask) (told : Told) → LeaseIs s lib ask told → LentSo ask told
lent_so s lib (Grant ino kind) (Lent lease) is = lent_as_lent s lib.0 ino kind lease (row_at s.home ino) is
lent_so s lib ask told is = tt

pub happens_leaves : (s : State) (lib : LibNo) (ask : Ask) (told : Told) (s' : State) → Kept s → Happens s lib ask told s' → CallLeaves (out_of s lib) ask told (out_of s' lib)
happens_leaves s lib ask told s' kept h = record {
  alike = λ fits. call_leaves s lib s' ask told fits kept h;
  lent = lent_so s lib ask told h.lease;
}

moves_leave : (lib : LibNo) (s : State) (calls : List Call) (moves : List Move) (s' : State) → Stands s → AreMoves lib s calls moves s' → Leave (out_of s lib) calls (out_of s' lib)
moves_leave lib s [] [] s' k a = ap (λ t. out_of t lib) a
moves_leave lib s [] (m ∷ moves) s' k a = absurd a
moves_leave lib s (c ∷ calls) [] s' k a = absurd a
moves_leave lib s (c ∷ calls) (m ∷ moves) s' k a = (
  out_of m.after lib,
  happens_leaves s lib c.ask c.told m.after k.kept a.1,
  moves_leave lib m.after calls moves s' (call_stands s lib c.ask c.told m.after k a.1) a.2,
)

-- calls, and others after them
leave_parted : (first later : List Call) (out out' : LibOut) → Leave out (first ++ later) out' → (middle : LibOut) × Leave out first middle × Leave middle later out'
leave_parted [] later out out' l = (out, refl, l)
leave_parted (c ∷ first) later out out' l =
    let rest = leave_parted first later l.0 out' l.2 in
    (rest.0, (l.0, l.1, rest.1), rest.2)

-- one call alone
one_leaves : (c : Call) (out out' : LibOut) → Leave out (c ∷ []) out' → CallLeaves out c.ask c.told out'
one_leaves c out out' l = subst (CallLeaves out c.ask c.told) (sym l.2) l.1

-- ---- a line

module _ (lib : LibNo) (out out' : LibOut) (has has' : Has) (calls : List Call) (told : LineAnswer) (all : HasAll out has) (leave : Leave out calls out') where
  alone_held : (said : RawLine) → Alone has said calls told has' → HasAll out' has'
  alone_held said a =
      let same : out' ≡ out = subst (λ (l : List Call). Leave out l out') a.calls_are leave in
      subst (HasAll out') (sym a.has_is) (subst (λ o. HasAll o (has_alone has said)) (sym same) (has_all-alone out has said all))

  asked : (said : RawLine) (ask : Ask) (a : Asks lib has said ask calls told has') → CallLeaves out ask a.answer out'
  asked said ask a = one_leaves (record { ask = ask; told = a.answer }) out out' (subst (λ (l : List Call). Leave out l out') a.calls_are leave)

  -- what the library has then, by what the answer leaves out to it
  abbrev Comes : RawLine → Ask → Told → Type 0
  Comes said ask answer = told_of said answer ≡ Some told → CallLeaves out ask answer out' → HasAll out' (has_after lib has said answer)

  grant_held : (ino : ℕ) (kind : GrantKind) (answer : Told) → Comes (GrantLine ino kind) (Grant ino kind) answer
  grant_held ino kind (Lent lease) t h =
      has_all-alike _ _ _ (h.alike tt)
      (has_all-lease out has lease h.lent all)
  grant_held ino kind (NotLent fault) t h = has_all-alike _ _ _ (h.alike tt) all
  grant_held ino kind (Given ps ns) t h = absurd (cc t)
  grant_held ino kind (NotGiven fault) t h = absurd (cc t)
  grant_held ino kind Done t h = absurd (cc t)
  grant_held ino kind (Judged answer) t h = absurd (cc t)
  grant_held ino kind (NotJudged fault) t h = absurd (cc t)
  grant_held ino kind ModeSet t h = absurd (cc t)
  grant_held ino kind Settled t h = absurd (cc t)
  grant_held ino kind NotSettled t h = absurd (cc t)
  grant_held ino kind (NotModeSet fault) t h = absurd (cc t)

  allot_held : (wanted many : ℕ) (answer : Told) → Comes (AllotLine wanted many) (Allot wanted many) answer
  allot_held wanted many (Given ps ns) t h =
      has_all-alike _ _ _ (h.alike tt) (has_all-allotted lib out has ps ns all)
  allot_held wanted many (NotGiven fault) t h = has_all-alike _ _ _ (h.alike tt) all
  allot_held wanted many (Lent l) t h = absurd (cc t)
  allot_held wanted many (NotLent fault) t h = absurd (cc t)
  allot_held wanted many Done t h = absurd (cc t)
  allot_held wanted many (Judged answer) t h = absurd (cc t)
  allot_held wanted many (NotJudged fault) t h = absurd (cc t)
  allot_held wanted many ModeSet t h = absurd (cc t)
  allot_held wanted many Settled t h = absurd (cc t)
  allot_held wanted many NotSettled t h = absurd (cc t)
  allot_held wanted many (NotModeSet fault) t h = absurd (cc t)

  back_held : (ino : ℕ) (lease : Shown) → lease.ino ≡ ino → (answer : Told) → Comes (BackLine ino) (GiveBack lease) answer
  back_held ino lease e Done t h =
      has_all-alike _ _ _ (h.alike tt)
      (subst (λ n. HasAll (out_words.without_read out n) (without_read has ino)) (sym e) (has_all-back out has ino all))
  back_held ino lease e (Lent l) t h = absurd (cc t)
  back_held ino lease e (NotLent fault) t h = absurd (cc t)
  back_held ino lease e (Given ps ns) t h = absurd (cc t)
  back_held ino lease e (NotGiven fault) t h = absurd (cc t)
  back_held ino lease e (Judged answer) t h = absurd (cc t)
  back_held ino lease e (NotJudged fault) t h = absurd (cc t)
  back_held ino lease e ModeSet t h = absurd (cc t)
  back_held ino lease e Settled t h = absurd (cc t)
  back_held ino lease e NotSettled t h = absurd (cc t)
  back_held ino lease e (NotModeSet fault) t h = absurd (cc t)

  release_held : (inos pages numbers : List ℕ) (answer : Told) → Comes (ReleaseLine inos pages numbers) (Release (parcel_named has inos pages numbers)) answer
  release_held inos pages numbers (Judged answer) t h =
      has_all-alike _ _ _ (h.alike tt)
      (has_all-rest out has inos pages numbers all)
  release_held inos pages numbers (NotJudged fault) t h =
      has_all-alike _ _ _ (h.alike tt)
      (has_all-returned out has inos pages numbers all)
  release_held inos pages numbers (Lent l) t h = absurd (cc t)
  release_held inos pages numbers (NotLent fault) t h = absurd (cc t)
  release_held inos pages numbers (Given ps ns) t h = absurd (cc t)
  release_held inos pages numbers (NotGiven fault) t h = absurd (cc t)
  release_held inos pages numbers Done t h = absurd (cc t)
  release_held inos pages numbers ModeSet t h = absurd (cc t)
  release_held inos pages numbers Settled t h = absurd (cc t)
  release_held inos pages numbers NotSettled t h = absurd (cc t)
  release_held inos pages numbers (NotModeSet fault) t h = absurd (cc t)

  mode_held : (ino mode : ℕ) (answer : Told) → Comes (ModeLine ino mode) (SetMode ino mode [] None) answer
  mode_held ino mode ModeSet t h = has_all-alike out out' has (mode_alike out out' [] refl (h.alike tt)) all
  mode_held ino mode (NotModeSet fault) t h = has_all-alike _ _ _ (h.alike tt) all
  mode_held ino mode (Lent l) t h = absurd (cc t)
  mode_held ino mode (NotLent fault) t h = absurd (cc t)
  mode_held ino mode (Given ps ns) t h = absurd (cc t)
  mode_held ino mode (NotGiven fault) t h = absurd (cc t)
  mode_held ino mode Done t h = absurd (cc t)
  mode_held ino mode (Judged answer) t h = absurd (cc t)
  mode_held ino mode (NotJudged fault) t h = absurd (cc t)
  mode_held ino mode Settled t h = absurd (cc t)
  mode_held ino mode NotSettled t h = absurd (cc t)

  -- what it has then
  then_has : (said : RawLine) (ask : Ask) (a : Asks lib has said ask calls told has') → ((answer : Told) → Comes said ask answer) → HasAll out' has'
  then_has said ask a held = subst (HasAll out') (sym a.has_is) (held a.answer a.told_is (asked said ask a))

  pub line_held : (said : RawLine) → LineComes lib has said calls told has' → HasAll out' has'
  line_held (GrantLine ino kind) a = then_has (GrantLine ino kind) (Grant ino kind) a (grant_held ino kind)
  line_held (AllotLine wanted many) a = then_has (AllotLine wanted many) (Allot wanted many) a (allot_held wanted many)
  line_held (ModeLine ino mode) a = then_has (ModeLine ino mode) (SetMode ino mode [] None) a (mode_held ino mode)
  line_held (Poke at offset bytes) a = alone_held (Poke at offset bytes) a
  line_held (Peek at offset len) a = alone_held (Peek at offset len) a
  line_held (BackLine ino) a = by (read_on has ino) refl a
    where
      said : RawLine
      said = BackLine ino

      by : (o : Option Shown) → read_on has ino ≡ o → MatchOption (option_map GiveBack o) (Alone has said calls told has') (λ ask. Asks lib has said ask calls told has') → HasAll out' has'
      by None e a = alone_held said a
      by (Some lease) e a =
          let found = find-In (λ (r : Shown). eqb r.ino ino) has.reads lease e in
          then_has said (GiveBack lease) a (back_held ino lease (eqb-true lease.ino ino found.1))
  line_held (ReleaseLine inos pages numbers) a = by (has_all_of has inos pages numbers) a
    where
      said : RawLine
      said = ReleaseLine inos pages numbers

      by : (b : Bool) → MatchOption (cond b (Some (Release (parcel_named has inos pages numbers))) None) (Alone has said calls told has') (λ ask. Asks lib has said ask calls told has') → HasAll out' has'
      by false a = alone_held said a
      by true a = then_has said (Release (parcel_named has inos pages numbers)) a (release_held inos pages numbers)

-- ---- an end

-- once these read leases are given back, the others and all else that is out are there
backs_held : (has : Has) (xs rs : List Shown) (out out' : LibOut) → HasAll out (with_reads has (xs ++ rs)) → Leave out (back_calls rs) out' → HasAll out' (with_reads has xs)
backs_held has xs [] out out' h l = subst (λ o. HasAll o (with_reads has xs)) (sym l) (subst (λ (rs : List Shown). HasAll out (with_reads has rs)) (append-nil xs) h)
backs_held has xs (r ∷ rs) out out' h l =
    let joined : xs ++ r ∷ rs ≡ (xs ++ r ∷ []) ++ rs = sym (append_assoc xs (r ∷ []) rs) in
    let p = leave_parted (back_calls rs) (record { ask = GiveBack r; told = Done } ∷ []) out out' l in
    let before = backs_held has (xs ++ r ∷ []) rs out p.0 (subst (λ (ys : List Shown). HasAll out (with_reads has ys)) joined h) p.1 in
    has_all-alike _ _ _ ((one_leaves (record { ask = GiveBack r; told = Done }) p.0 out' p.2).alike tt) (has_all-last p.0 has xs r before)

is_empty : {X : Type 0} (xs : List X) → eqb (length xs) 0 ≡ true → xs ≡ []
is_empty [] e = refl
is_empty (x ∷ xs) e = absurd (false≢true (sym (eqb-suc-zero (length xs)) ∙ e))

-- where it has nothing but read leases, it has nothing once they are gone
none_held : (out : LibOut) (has : Has) → has_nothing has ≡ true → HasAll out (with_reads has []) → HasAll out nothing
none_held out has t h =
    let writes : Bool = eqb (length has.writes) 0 in
    let holds : Bool = eqb (length has.holds) 0 in
    let pages : Bool = eqb (length has.pages) 0 in
    let inodes : Bool = eqb (length has.inodes) 0 in
    let all = and_parts (writes && holds && pages) inodes t in
    let three = and_parts (writes && holds) pages all.0 in
    let both = and_parts writes holds three.0 in
    subst (λ (l : List _). HasAll out (record nothing { writes = l })) (is_empty has.writes both.0)
    (subst (λ (l : List _). HasAll out (record nothing { writes = has.writes; holds = l })) (is_empty has.holds both.1)
    (subst (λ (l : List _). HasAll out (record nothing { writes = has.writes; holds = has.holds; pages = l })) (is_empty has.pages three.1)
    (subst (λ (l : List _). HasAll out (record nothing { writes = has.writes; holds = has.holds; pages = has.pages; inodes = l })) (is_empty has.inodes all.1) h)))

pub end_held : (has : Has) (calls : List Call) (end : EndAnswer) (out out' : LibOut) → HasAll out has → EndComes has calls end → Leave out calls out' → HasAll out' nothing
end_held has calls end out out' h comes leave =
    elim (cases_Bool (has_nothing has)) [
      | inl t ↦
          (let a : EndsAlone has calls end = MatchBool-at_true (EndsAlone has calls end) (EndsAll has calls end) t comes in
          none_held out' has t (backs_held has [] has.reads out out' h (subst (λ (l : List Call). Leave out l out') a.calls_are leave)))
      | inr f ↦
          (let a : EndsAll has calls end = MatchBool-at_false (EndsAlone has calls end) (EndsAll has calls end) f comes in
          let last : Call = release_call has (Judged a.answer) in
          let p = leave_parted (back_calls has.reads) (last ∷ []) out out' (subst (λ (l : List Call). Leave out l out') a.calls_are leave) in
          has_all-alike _ _ _ ((one_leaves last p.0 out' p.2).alike tt) (has_all-whole p.0 has (backs_held has [] has.reads out p.0 h p.1)))
    ]

-- ---- a settle

-- a library to which nothing is out has all of it with nothing
pub none_all : (out : LibOut) → OutAlike out no_lib_out → HasAll out nothing
none_all out o = record {
  writes = λ w i. absurd (subst (λ l. In w l) o.writes i);
  reads = λ r i. absurd (subst (λ l. In r l) o.reads i);
  holds = λ h i. absurd (subst (λ l. In h l) o.holds i);
  pages = λ n i. absurd ((o.pages n).0 i);
  numbers = λ n i. absurd ((o.numbers n).0 i);
}

-- what is seen of a desk before and after a settle of a session that may call
module _ (d d' : DeskSeen) (x x' : SessionSeen) (may : MayCall d x) (seen : SeenAfter d (Settle x.parcel x.reads x.calls) Settled d') (empty : x' ≡ record (emptied x) { room = x'.room }) where
  pub nothing_settled : HasAll d'.out nothing
  nothing_settled = none_all d'.out seen.out

  pub settled_may : MayCall d' x'
  settled_may =
      begins_to_call d' x'
      (record {
        lib = ap (λ (y : SessionSeen). y.lib) empty ∙ may.edits.on.lib ∙ sym seen.lib;
        creds = ap (λ (y : SessionSeen). y.creds) empty ∙ may.edits.on.creds ∙ sym seen.creds;
        out = seen.out;
        empty = subst (λ (y : SessionSeen). y ≡ emptied y) (sym empty) refl;
      })

pub settle_leaves : (s s' : State) (lib : LibNo) (x : SessionSeen) → Kept s → LentWhole s → MayCall (desk_of s lib) x → Happens s lib (Settle x.parcel x.reads x.calls) Settled s'
    → SeenAfter (desk_of s lib) (Settle x.parcel x.reads x.calls) Settled (desk_of s' lib)
settle_leaves s s' lib x kept whole may h =
    settle_seen {A = Unit {0}} {B = Unit {0}} s s' lib x.parcel x.reads x.calls (Ok tt) kept whole (may_be_settled (desk_of s lib) x may) h

-- ---- a turn

module _ (lib : LibNo) (s : State) (d' : Noted) (k : Stands s) where
  seen_then : (x x' : SessionSeen) → MayCall (desk_of s lib) x → Settles (Notes lib) (unnoted s) x d' x' → SeenAfter (desk_of s lib) (Settle x.parcel x.reads x.calls) Settled (desk_of d'.state lib)
  seen_then x x' may t = settle_leaves s d'.state lib x k.kept k.whole may t.made.happens

  honest_held : (x x' : SessionSeen) (line : HonestLine) (told : LineAnswer) → MayCall (desk_of s lib) x → HonestComes (Notes lib) (sees lib) (unnoted s) x line told d' x' → MayCall (desk_of d'.state lib) x'
  honest_held x x' (CallLine call) told may c = c.may
  honest_held x x' SettleLine told may c = settled_may (desk_of s lib) (desk_of d'.state lib) x x' may (seen_then x x' may c.0) c.0.empty

turn_held : (lib : LibNo) (turn : Turn) (s : State) (share : Share) (told : Heard) (d' : Noted) (share' : Share) (told' : Heard) → Stands s → HoldsAll (desk_of s lib) share → TurnComes lib turn (unnoted s) share told d' share' told' → AreMoves lib s d'.calls d'.moves d'.state → HoldsAll (desk_of d'.state lib) share'
turn_held lib (Says line) s (Things has) told d' (Things has') told' k h c am =
    line_held lib (out_of s lib) (out_of d'.state lib) has has' d'.calls c.0 h (moves_leave lib s d'.calls d'.moves d'.state k am) line.line c.1
turn_held lib (SaysHonest line) s (InSession x) told d' (InSession x') told' k h c am = honest_held lib s d' k x x' line.line c.0 h c.1
turn_held lib Ends s (Things has) told d' (Things has') told' k h c am =
    subst (HasAll (out_of d'.state lib)) (sym c.2)
    (end_held has d'.calls c.0 (out_of s lib) (out_of d'.state lib) h c.1 (moves_leave lib s d'.calls d'.moves d'.state k am))
turn_held lib Ends s (InSession x) told d' (InSession x') told' k h c am =
    settled_may (desk_of s lib) (desk_of d'.state lib) x x' h (seen_then lib s d' k x x' h c.0) c.0.empty
turn_held lib turn s share told d' share' told' k h c am = absurd c

abbrev pub is_end : Turn → Bool
is_end (Says line) = false
is_end (SaysHonest line) = false
is_end Ends = true

-- after its end nothing is out to a library
pub end_none : (lib : LibNo) (turn : Turn) (s : State) (share : Share) (told : Heard) (d' : Noted) (share' : Share) (told' : Heard) → is_end turn ≡ true → Stands s → HoldsAll (desk_of s lib) share → TurnComes lib turn (unnoted s) share told d' share' told' → AreMoves lib s d'.calls d'.moves d'.state → HasAll (out_of d'.state lib) nothing
end_none lib (Says line) s share told d' share' told' e k h c am = absurd (false≢true e)
end_none lib (SaysHonest line) s share told d' share' told' e k h c am = absurd (false≢true e)
end_none lib Ends s (Things has) told d' (Things has') told' e k h c am =
    end_held has d'.calls c.0 (out_of s lib) (out_of d'.state lib) h c.1 (moves_leave lib s d'.calls d'.moves d'.state k am)
end_none lib Ends s (InSession x) told d' (InSession x') told' e k h c am =
    nothing_settled (desk_of s lib) (desk_of d'.state lib) x x' h (seen_then lib s d' k x x' h c.0) c.0.empty
end_none lib Ends s share told d' share' told' e k h c am = absurd c

-- a library by its number
pub same_library : (a b : LibNo) → a.0 ≡ b.0 → a ≡ b
same_library a b e = ap (λ n. record { 0 = n }) e

-- what is there after the change of one place
pub set_own : {X : Type 0} (xs : List X) (lib : LibNo) (x d : X) → 1 ≤ lib.0 → lib.0 ≤ length xs → get_or (set xs (lib.0 - 1) x) (lib.0 - 1) d ≡ x
set_own xs lib x d low high = get_or-set_same xs (lib.0 - 1) x d (omega (arith, low, high))

pub set_other : {X : Type 0} (xs : List X) (lib other : LibNo) (x d : X) → 1 ≤ lib.0 → 1 ≤ other.0 → (other.0 ≡ lib.0 → ⊥) → get_or (set xs (lib.0 - 1) x) (other.0 - 1) d ≡ get_or xs (other.0 - 1) d
set_other xs lib other x d low other_low apart =
    get_or-set_other xs (lib.0 - 1) (other.0 - 1) x d (λ e. apart (omega (arith, low, other_low, e)))

pub held_stands : (p : Players) → IsHeld p → Stands p.state
held_stands p h = record { kept = h.kept; as_told = h.as_told; whole = h.whole }

-- the libraries are the same after a turn
pub same_creds : (p : Players) (t : Placed) (moves : List Move) (p' : Players) → TakesTurn p t moves p' → p'.state.creds ≡ p.state.creds
same_creds p t moves p' takes = moves_creds t.lib p.state takes.calls moves p'.state takes.happen

pub library_before : (other : LibNo) (s s' : State) → s'.creds ≡ s.creds → IsLibrary other s' → IsLibrary other s
library_before other s s' e is = (is.0, subst (λ (cs : List Creds). other.0 ≤ length cs) e is.1)

pub library_after : (other : LibNo) (s s' : State) → s'.creds ≡ s.creds → IsLibrary other s → IsLibrary other s'
library_after other s s' e is = (is.0, subst (λ (cs : List Creds). other.0 ≤ length cs) (sym e) is.1)

-- the controller after a turn, with its calls and moves
abbrev pub noted_of : (p' : Players) (calls : List Call) (moves : List Move) → Noted
noted_of p' calls moves = record { state = p'.state; calls = calls; moves = moves }

-- what its library has after a turn
pub own_after : (p : Players) (t : Placed) (moves : List Move) (p' : Players) → IsHeld p → IsLibrary t.lib p.state → (takes : TakesTurn p t moves p') → share_of p' t.lib ≡ takes.share'
own_after p t moves p' h is takes =
    ap (λ (l : List Share). get_or l (t.lib.0 - 1) (Things nothing)) takes.shares_are
    ∙ set_own p.shares t.lib takes.share' (Things nothing) is.0 (subst (λ n. t.lib.0 ≤ n) (sym h.places) is.1)

-- and what another has
pub other_after : (p : Players) (t : Placed) (moves : List Move) (p' : Players) (other : LibNo) → 1 ≤ t.lib.0 → 1 ≤ other.0 → (other.0 ≡ t.lib.0 → ⊥) → TakesTurn p t moves p' → share_of p' other ≡ share_of p other
other_after p t moves p' other low other_low apart takes =
    ap (λ (l : List Share). get_or l (other.0 - 1) (Things nothing)) takes.shares_are
    ∙ set_other p.shares t.lib other takes.share' (Things nothing) low other_low apart

-- what is seen of another's desk stays in a turn
pub others_seen : (p : Players) (t : Placed) (moves : List Move) (p' : Players) (other : LibNo) → IsHeld p → (other.0 ≡ t.lib.0 → ⊥) → TakesTurn p t moves p' → desk_of p'.state other ≡ desk_of p.state other
others_seen p t moves p' other h apart takes = moves_others t.lib other p.state takes.calls moves p'.state apart (held_stands p h) takes.happen

pub held_after : (p : Players) (t : Placed) (moves : List Move) (p' : Players) → IsHeld p → IsLibrary t.lib p.state → TakesTurn p t moves p' → IsHeld p'
held_after p t moves p' h is takes =
    let stands = moves_stand t.lib p.state takes.calls moves p'.state (held_stands p h) takes.happen in
    let creds = same_creds p t moves p' takes in
    let own : HoldsAll (desk_of p'.state t.lib) (share_of p' t.lib) =
    subst (HoldsAll (desk_of p'.state t.lib)) (sym (own_after p t moves p' h is takes))
    (turn_held t.lib t.turn p.state (share_of p t.lib) (told_to p t.lib) (noted_of p' takes.calls moves) takes.share' takes.told' (held_stands p h) (h.all t.lib is) takes.comes takes.happen) in
    record {
      kept = stands.kept;
      as_told = stands.as_told;
      whole = stands.whole;
      places = ap length takes.shares_are ∙ length-set p.shares (t.lib.0 - 1) takes.share' ∙ h.places ∙ ap length (sym creds);
      all = λ other there. elim (cases_Bool (eqb other.0 t.lib.0)) [
        | inl e ↦ subst (λ l. HoldsAll (desk_of p'.state l) (share_of p' l)) (sym (same_library other t.lib (eqb-true other.0 t.lib.0 e))) own
        | inr f ↦
            (let apart : other.0 ≡ t.lib.0 → ⊥ = λ e. both_ways (eqb other.0 t.lib.0) f (eq-eqb other.0 t.lib.0 e) in
            let before = library_before other p.state p'.state creds there in
            subst (λ (d : DeskSeen). HoldsAll d (share_of p' other)) (sym (others_seen p t moves p' other h apart takes))
            (subst (HoldsAll (desk_of p.state other)) (sym (other_after p t moves p' other is.0 before.0 apart takes)) (h.all other before)))
      ];
      nobody_else = λ other none.
          let before : IsLibrary other p.state → ⊥ = λ l. none (library_after other p.state p'.state creds l) in
          let apart : other.0 ≡ t.lib.0 → ⊥ = λ e. before (subst (λ l. IsLibrary l p.state) (sym (same_library other t.lib e)) is) in
          subst (λ (o : LibOut). HasAll o nothing) (sym (ap (λ (d : DeskSeen). d.out) (others_seen p t moves p' other h apart takes))) (h.nobody_else other before);
    }
