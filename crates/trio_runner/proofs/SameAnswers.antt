-- Answers that are the same to the controller are told the same, and the same calls leave the same known.
use Rattle.trio_runner.proofs.Words.{◌∙◌, ◌∷◌, ◌≡◌, ◌≢◌, AcceptedParcel, AreMoves, Call, CtlAnswer, Denied, Done, Given, Grant, GrantKind, HoldLent, In, IsSomeAnd, Judged, Known, Lease, LeaseIs, Lent, LibNo, List, ModeSet, Move, NoAllotMemory, NoFreeInodes, NoFreePages, NoGrantMemory, NoParent, NoReleaseMemory, None, NotClosedParcel, NotGiven, NotJudged, NotLent, NotLive, NotModeSet, NotSettled, Option, RefusedParcel, Regular, Row, SameAnswer, Settled, Some, State, Told, [], answer_of, ap, event_of, inl, inr, known, known_decides, lent_by, opened, plain_state, plain_step, refl, row_at, same_event_same_answer, subst, sym, ℕ}
use Rattle.trio_nodes.specs.declared.answers.GrantFault.TheVariants.{Busy}
use Rattle.trio_nodes.specs.declared.answers.ModeFault.TheVariants as unmoded
use Rattle.trio_state.specs.Tells.{Why}
use Rattle.trio_state.specs.Step as step
use Rattle.trio_laws.specs.Known.{refused_rule}
use Rattle.trio_runner.proofs.Sessions.{ArePlain}
use Rattle.trio_runner.proofs.Moves.{Stands, call_stands, no_move}

-- two answers are the same, but for the file and the place that a refusal names
pub data Alike : Told → Told → Type 0 where
  Same : (told : Told) → Alike told told
  BothRefused : (rule ino page slot ino' page' slot' : ℕ) → Alike (Judged (RefusedParcel rule ino page slot)) (Judged (RefusedParcel rule ino' page' slot'))

-- the answer of a desk, by that of the controller, where it isn't want of memory; a lease is told beside it
abbrev pub from : Lease → CtlAnswer → Told
from lease (step.Granted children) = Lent lease
from lease (step.NotGranted fault) = NotLent fault
from lease (step.Given pages numbers) = Given pages numbers
from lease (step.NoPages wanted free) = NotGiven (NoFreePages wanted free)
from lease (step.NoInodes wanted free) = NotGiven (NoFreeInodes wanted free)
from lease step.Done = Done
from lease step.Accepted = Judged AcceptedParcel
from lease (step.Refused why) = Judged (RefusedParcel why.rule why.ino why.page why.slot)
from lease (step.NotClosed ino) = NotJudged (NotClosedParcel ino)
from lease step.Settled = Settled
from lease step.ModeSet = ModeSet
from lease (step.NotModeSet fault) = NotModeSet fault
from lease step.NoMemory = Done

-- an answer that isn't want of memory, and that lends this if it lends something, is told so
abbrev pub Lends : Lease → Told → Type 0
Lends lease (Lent l) = l ≡ lease
Lends lease _ = Unit {0}

pub told_from : (lease : Lease) (told : Told) → Lends lease told → answer_of told ≢ step.NoMemory → told ≡ from lease (answer_of told)
told_from lease (Lent l) is some = ap Lent is
told_from lease (NotLent NotLive) is some = refl
told_from lease (NotLent (Denied n)) is some = refl
told_from lease (NotLent NoParent) is some = refl
told_from lease (NotLent (Busy h)) is some = refl
told_from lease (NotLent NoGrantMemory) is some = absurd (some refl)
told_from lease (Given pages numbers) is some = refl
told_from lease (NotGiven (NoFreePages wanted free)) is some = refl
told_from lease (NotGiven (NoFreeInodes wanted free)) is some = refl
told_from lease (NotGiven NoAllotMemory) is some = absurd (some refl)
told_from lease Done is some = refl
told_from lease (Judged AcceptedParcel) is some = refl
told_from lease (Judged (RefusedParcel rule ino page slot)) is some = refl
told_from lease (NotJudged (NotClosedParcel n)) is some = refl
told_from lease (NotJudged NoReleaseMemory) is some = absurd (some refl)
told_from lease ModeSet is some = refl
told_from lease Settled is some = refl
told_from lease NotSettled is some = absurd (some refl)
told_from lease (NotModeSet unmoded.NotLive) is some = refl
told_from lease (NotModeSet unmoded.NotOwner) is some = refl
told_from lease (NotModeSet unmoded.BadMode) is some = refl
told_from lease (NotModeSet (unmoded.Busy h)) is some = refl
told_from lease (NotModeSet unmoded.NoMemory) is some = absurd (some refl)

-- a refusal has a cause
refusal_why : (a : CtlAnswer) (rule : ℕ) → refused_rule a ≡ Some rule → (why : Why) × (a ≡ step.Refused why) × (why.rule ≡ rule)
refusal_why (step.Refused why) rule e = (why, refl, cc e)
refusal_why (step.Granted children) rule e = absurd (cc e)
refusal_why (step.NotGranted fault) rule e = absurd (cc e)
refusal_why (step.Given pages numbers) rule e = absurd (cc e)
refusal_why (step.NoPages wanted free) rule e = absurd (cc e)
refusal_why (step.NoInodes wanted free) rule e = absurd (cc e)
refusal_why step.Done rule e = absurd (cc e)
refusal_why step.Accepted rule e = absurd (cc e)
refusal_why (step.NotClosed ino) rule e = absurd (cc e)
refusal_why step.Settled rule e = absurd (cc e)
refusal_why step.ModeSet rule e = absurd (cc e)
refusal_why (step.NotModeSet fault) rule e = absurd (cc e)
refusal_why step.NoMemory rule e = absurd (cc e)

from_alike : (lease : Lease) (a b : CtlAnswer) → SameAnswer a b → Alike (from lease a) (from lease b)
from_alike lease a b (inl e) = subst (λ x. Alike (from lease a) (from lease x)) e (Same (from lease a))
from_alike lease a b (inr r) =
    let x = refusal_why a r.0 r.1 in
    let y = refusal_why b r.0 r.2 in
    let rules : y.0.rule ≡ x.0.rule = y.2 ∙ sym x.2 in
    let both : Alike (from lease (step.Refused x.0)) (from lease (step.Refused y.0)) =
    subst (λ n. Alike (from lease (step.Refused x.0)) (Judged (RefusedParcel n y.0.ino y.0.page y.0.slot))) (sym rules)
    (BothRefused x.0.rule x.0.ino x.0.page x.0.slot y.0.ino y.0.page y.0.slot) in
    subst (λ c. Alike (from lease c) (from lease b)) (sym x.1) (subst (λ c. Alike (from lease (step.Refused x.0)) (from lease c)) (sym y.1) both)

-- two answers that lend the same and are the same to the controller are alike
pub answers_alike : (lease : Lease) (a b : Told) → Lends lease a → Lends lease b → answer_of a ≢ step.NoMemory → answer_of b ≢ step.NoMemory → SameAnswer (answer_of a) (answer_of b) → Alike a b
answers_alike lease a b la lb some_a some_b same =
    subst (λ x. Alike x b) (sym (told_from lease a la some_a))
    (subst (λ x. Alike (from lease (answer_of a)) x) (sym (told_from lease b lb some_b)) (from_alike lease (answer_of a) (answer_of b) same))

-- some lease
pub no_lease : Lease
no_lease = HoldLent (record { lib = record { 0 = 0 }; ino = 0; kind = Regular; entry = 0; parent = 0; body = []; children = 0 })

-- the lease that is told
abbrev pub lease_in : Told → Lease
lease_in (Lent l) = l
lease_in _ = no_lease

pub lends_own : (a : Told) → Lends (lease_in a) a
lends_own (Lent l) = refl
lends_own (NotLent fault) = tt
lends_own (Given ps ns) = tt
lends_own (NotGiven fault) = tt
lends_own Done = tt
lends_own (Judged answer) = tt
lends_own (NotJudged fault) = tt
lends_own ModeSet = tt
lends_own Settled = tt
lends_own NotSettled = tt
lends_own (NotModeSet fault) = tt

module _ (s t : State) (lib : LibNo) (same : known s ≡ known t) where
  -- a grant lends the same from both
  opened_same : (ino : ℕ) (kind : GrantKind) (r : Row) → opened s lib.0 ino kind r ≡ opened t lib.0 ino kind r
  opened_same ino kind r =
      sym ((known_decides s).openings lib.0 ino kind r) ∙ ap (λ k. opened (plain_state k) lib.0 ino kind r) same
      ∙ (known_decides t).openings lib.0 ino kind r

  row_same : (ino : ℕ) → row_at s.home ino ≡ row_at t.home ino
  row_same ino = ap (λ (k : Known). row_at k.image ino) same

  lease_same : (ino : ℕ) (kind : GrantKind) (a b : Lease) → LeaseIs s lib (Grant ino kind) (Lent a) → LeaseIs t lib (Grant ino kind) (Lent b) → a ≡ b
  lease_same ino kind a b is js =
      by (row_at s.home ino) is (subst (λ o. IsSomeAnd o (λ r. b ≡ lent_by (opened t lib.0 ino kind r))) (sym (row_same ino)) js)
    where
      by : (o : Option Row) → IsSomeAnd o (λ r. a ≡ lent_by (opened s lib.0 ino kind r)) → IsSomeAnd o (λ r. b ≡ lent_by (opened t lib.0 ino kind r)) → a ≡ b
      by None is js = absurd is
      by (Some r) is js = is ∙ ap lent_by (opened_same ino kind r) ∙ sym js

  pub lends_same : (ino : ℕ) (kind : GrantKind) (a b : Told) → LeaseIs s lib (Grant ino kind) a → LeaseIs t lib (Grant ino kind) b → (l : Lease) × Lends l a × Lends l b
  lends_same ino kind (Lent l) (Lent m) is js = (l, refl, sym (lease_same ino kind l m is js))
  lends_same ino kind (Lent l) (NotLent fault) is js = (l, refl, tt)
  lends_same ino kind (Lent l) (Given ps ns) is js = (l, refl, tt)
  lends_same ino kind (Lent l) (NotGiven fault) is js = (l, refl, tt)
  lends_same ino kind (Lent l) Done is js = (l, refl, tt)
  lends_same ino kind (Lent l) (Judged answer) is js = (l, refl, tt)
  lends_same ino kind (Lent l) (NotJudged fault) is js = (l, refl, tt)
  lends_same ino kind (Lent l) ModeSet is js = (l, refl, tt)
  lends_same ino kind (Lent l) Settled is js = (l, refl, tt)
  lends_same ino kind (Lent l) NotSettled is js = (l, refl, tt)
  lends_same ino kind (Lent l) (NotModeSet fault) is js = (l, refl, tt)
  lends_same ino kind (NotLent fault) b is js = (lease_in b, tt, lends_own b)
  lends_same ino kind (Given ps ns) b is js = (lease_in b, tt, lends_own b)
  lends_same ino kind (NotGiven fault) b is js = (lease_in b, tt, lends_own b)
  lends_same ino kind Done b is js = (lease_in b, tt, lends_own b)
  lends_same ino kind (Judged answer) b is js = (lease_in b, tt, lends_own b)
  lends_same ino kind (NotJudged fault) b is js = (lease_in b, tt, lends_own b)
  lends_same ino kind ModeSet b is js = (lease_in b, tt, lends_own b)
  lends_same ino kind Settled b is js = (lease_in b, tt, lends_own b)
  lends_same ino kind NotSettled b is js = (lease_in b, tt, lends_own b)
  lends_same ino kind (NotModeSet fault) b is js = (lease_in b, tt, lends_own b)

-- the same calls, none of which is answered by want of memory
pub calls_known : (lib : LibNo) (calls : List Call) (s t : State) (moves moves' : List Move) (s' t' : State) → ((c : Call) → In c calls → answer_of c.told ≢ step.NoMemory) → ArePlain calls → Stands s → Stands t → known s ≡ known t → AreMoves lib s calls moves s' → AreMoves lib t calls moves' t' → known s' ≡ known t'
calls_known lib [] s t moves moves' s' t' some plain hs ht same am bm = ap known (no_move lib s moves s' am) ∙ same ∙ sym (ap known (no_move lib t moves' t' bm))
calls_known lib (c ∷ calls) s t [] moves' s' t' some plain hs ht same am bm = absurd am
calls_known lib (c ∷ calls) s t (m ∷ moves) [] s' t' some plain hs ht same am bm = absurd bm
calls_known lib (c ∷ calls) s t (m ∷ moves) (n ∷ moves') s' t' some plain hs ht same am bm =
    let r = same_event_same_answer s t (event_of lib c.ask) (answer_of c.told) (answer_of c.told) m.after n.after hs.kept ht.kept same
    (plain_step s lib c.ask c.told m.after (plain c (inl refl)) am.1) (plain_step t lib c.ask c.told n.after (plain c (inl refl)) bm.1) (some c (inl refl)) (some c (inl refl)) in
    calls_known lib calls m.after n.after moves moves' s' t' (λ x i. some x (inr i)) (λ x i. plain x (inr i))
    (call_stands s lib c.ask c.told m.after hs am.1) (call_stands t lib c.ask c.told n.after ht bm.1) r.1 am.2 bm.2
