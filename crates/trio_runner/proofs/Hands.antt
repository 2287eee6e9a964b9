-- What a library has of a pool, and its turns at the desk of the pool.
use Rattle.trio_runner.proofs.Words.{◌++◌, ◌<◌, ◌∙◌, ◌∷◌, ◌≡◌, DeskIsLeft, GoesOn, Heard, Held, HoldsAll, LibSeat, [], Option, OthersLeave, Share, Shared, Turn, TurnTaken, desk, refl, seated, suc, zero, List, Some, arith, inl, inr, length, slice_get, slice_get_within, subst, sym, ℕ}
use Rattle.trio_desk.specs.Call.{Ask, Told}
use Rattle.trio_shared.specs.Pooled.{UsesPass}
use Rattle.trio_shared.specs.Turns.{Calls}
use Rattle.trio_shared.specs.declared.pool_desk.PoolDesk.{PoolDesk}
use Rattle.trio_runner.specs.Players.{HasClosed}
use Rattle.trio_runner.specs.inner.Threads.{Sits, TookAtSeat}
use Rattle.trio_runner.proofs.Going as going
use Rattle.std.proofs.Math.Logic.{∥∥₁_elim}
use Rattle.std.proofs.Props.{props}
use Rattle.std.proofs.lemmas.Option.{slice_get_cases}
use Rattle.trio_pool.specs.declared.mail.MailPass.{MailPass}
use Rattle.trio_pool.specs.declared.mail.MailQueue.{MailQueue}
use Rattle.trio_pool.specs.declared.mail.Mails.{Mails}
use Rattle.trio_pool.specs.Mails.{IsForMails, IsTokenOf, library_count}

there_is : {A : Type 0} (xs : List A) (k : ℕ) → k < length xs → (x : A) × (slice_get xs k ≡ Some x)
there_is xs k within =
    elim ((slice_get_cases xs k).1) [
      | inl has ↦ (has.0, has.2)
      | inr past ↦ absurd (omega (arith, within, past.0))
    ]

module _ {J : Type 0} where
  -- it comes from the start of the mails
  pub is_for : (m : Mails J) (p : MailPass J) → ∥ IsForMails m p ∥₁ → IsForMails m p
  is_for m p kept =
      let long : length p.tokens.items ≡ library_count m = ∥∥₁_elim kept (hlevel props) (λ f. f.0) in (
        long,
        λ k token there.
            let q = there_is m.queues.items k (subst (λ n. k < n) long (slice_get_within p.tokens.items k token there)) in (
              q.0,
              q.1,
              ∥∥₁_elim kept (hlevel props) (λ f. let has = f.1 k token there in let same : has.0 ≡ q.0 = cc (sym has.1 ∙ q.1) in subst (λ (x : MailQueue J). IsTokenOf x token) same has.2),
              ∥∥₁_elim kept (hlevel props) (λ f. (f.1 k token there).3),
            ),
      )

-- ---- lists of passes

last_at : {A : Type 0} (xs : List A) (x : A) → slice_get (xs ++ x ∷ []) (length xs) ≡ Some x
last_at [] x = refl
last_at (y ∷ ys) x = last_at ys x

front_at : {A : Type 0} (xs : List A) (x : A) (k : ℕ) (y : A) → slice_get xs k ≡ Some y → slice_get (xs ++ x ∷ []) k ≡ Some y
front_at [] x k y e = absurd (cc e)
front_at (z ∷ xs) x zero y e = e
front_at (z ∷ xs) x (suc k) y e = front_at xs x k y e

-- what holds of each holds of the last one
pub of_last : {A : Type 0} (P : A → Type 0) (all front : List A) (x : A) → all ≡ front ++ x ∷ [] → ((k : ℕ) (y : A) → slice_get all k ≡ Some y → P y) → P x
of_last P all front x is each = each (length front) x (subst (λ l. slice_get l (length front) ≡ Some x) (sym is) (last_at front x))

-- and of each of the others
pub of_front : {A : Type 0} (P : A → Type 0) (all front : List A) (x : A) → all ≡ front ++ x ∷ [] → ((k : ℕ) (y : A) → slice_get all k ≡ Some y → P y) → (k : ℕ) (y : A) → slice_get front k ≡ Some y → P y
of_front P all front x is each k y e = each k y (subst (λ l. slice_get l k ≡ Some y) (sym is) (front_at front x k y e))

-- ---- turns

-- what stays of a desk over a pool: the references to the seat and to both passes, the pool and the mails
pub record Stay (A B D P M : Type 0) : Type 0 where
  pub seat : A
  pub pass : B
  pub mail : D
  pub pool : P
  pub mails : M

abbrev stay : {A B D P M : Type 0} → A → B → D → P → M → Stay A B D P M
stay a b d p m = record { seat = a; pass = b; mail = d; pool = p; mails = m }

module _ {R : Type 0} where
  -- what a call does with such a desk
  abbrev pub Called : PoolDesk R → Ask → Told → PoolDesk R → Type 0
  Called d ask told d' =
      Calls (seated d.desk.seat.now) ask told (seated d'.desk.seat.now)
      × UsesPass (seated d.desk.seat.now) ask told d.pass.now d'.pass.now
      × (d'.desk.shared.now ≡ d.desk.shared.now)
      × (d'.pool.now ≡ d.pool.now)
      × (d'.mails.now ≡ d.mails.now)
      × (d'.desk.seat.ghost_name ≡ d.desk.seat.ghost_name)
      × (d'.pass.ghost_name ≡ d.pass.ghost_name)
      × (d'.mail.ghost_name ≡ d.mail.ghost_name)

  abbrev shared_at : PoolDesk R → Shared
  shared_at d = d.desk.shared.now

  abbrev seat_at : PoolDesk R → LibSeat Held
  seat_at d = d.desk.seat.now

  is_call : (d : PoolDesk R) (ask : Ask) (told : Told) (d' : PoolDesk R) → Called d ask told d' → Calls (seated (seat_at d)) ask told (seated (seat_at d')) × (shared_at d' ≡ shared_at d) × (stay d'.desk.seat.ghost_name d'.pass.ghost_name d'.mail.ghost_name d'.pool.now d'.mails.now ≡ stay d.desk.seat.ghost_name d.pass.ghost_name d.mail.ghost_name d.pool.now d.mails.now)
  is_call d ask told d' h = (h.0, h.2, λ i. stay (h.5 i) (h.6 i) (h.7 i) (h.3 i) (h.4 i))

  module _ (is_left : DeskIsLeft) (sh : Shared) (old : LibSeat Held) (sits : Sits sh old) (d : PoolDesk R) (at : seat_at d ≡ old) where
    -- a library that has all that is out to it may come to its end
    pub closed : (share : Share) → HoldsAll (desk old) share → HasClosed (desk (seat_at d)) share
    closed share all =
        going.has_closed Called shared_at seat_at (λ (x : PoolDesk R). stay x.desk.seat.ghost_name x.pass.ghost_name x.mail.ghost_name x.pool.now x.mails.now) is_call is_left d (going.left_of Called shared_at seat_at (λ (x : PoolDesk R). stay x.desk.seat.ghost_name x.pass.ghost_name x.mail.ghost_name x.pool.now x.mails.now) is_call d sh old at sits) share
        (subst (λ (s : LibSeat Held). HoldsAll (desk s) share) (sym at) all)

    module _ (others_leave : OthersLeave) (of : shared_at d ≡ sh) (d' : PoolDesk R) where
      -- after a turn, or where none is left, these stay
      pub stays : (o : Option Turn) (share share' : Share) (told told' : Heard) → TurnTaken Called (λ x. desk (seat_at x)) o d share told d' share' told' → stay d'.desk.seat.ghost_name d'.pass.ghost_name d'.mail.ghost_name d'.pool.now d'.mails.now ≡ stay d.desk.seat.ghost_name d.pass.ghost_name d.mail.ghost_name d.pool.now d.mails.now
      stays o share share' told told' took = going.name_stays Called shared_at seat_at (λ (x : PoolDesk R). stay x.desk.seat.ghost_name x.pass.ghost_name x.mail.ghost_name x.pool.now x.mails.now) is_call is_left others_leave d d' sh old of at sits o share share' told told' took

      -- a turn at the desk is one of the library at its seat
      pub took : (turn : Turn) (o : Option Turn) → o ≡ Some turn → (share share' : Share) (told told' : Heard) → TurnTaken Called (λ x. desk (seat_at x)) o d share told d' share' told'
          → (new : LibSeat Held) → new ≡ seat_at d' → HoldsAll (desk old) share → GoesOn (desk (seat_at d')) share' → TookAtSeat sh turn old share told new share' told'
      took turn o there share share' told told' taken new to all goes =
          going.turn_took Called shared_at seat_at (λ (x : PoolDesk R). stay x.desk.seat.ghost_name x.pass.ghost_name x.mail.ghost_name x.pool.now x.mails.now) is_call is_left others_leave d d' sh old of at sits turn o there share share' told told' taken new to d'.desk.is_seat d'.desk.is_idle all goes
