-- A call is tried, and settled, and tried once more.
use Rattle.trio_walk.proofs.Words.{◌∙◌, ◌≡◌, Ask, DeskSeen, Err, Gives, Holder, IsOn, Leaves, Made, NotMade, Ok, OneCall, Outcome, Result, SeenAfter, SessionSeen, Told, ap, subst, sym, ℕ}
use Rattle.std.specs.Prelude.{IsErr, length}
use Rattle.trio_desk.specs.Call.{Settle, Settled, NotSettled}
use Rattle.trio_session.specs.Asked.{AfterSettle}
use Rattle.trio_session.specs.Seen.{emptied}
use Rattle.trio_walk.specs.declared.outcome.Outcome.TheVariants.{Busy, NoMemory}
use Rattle.trio_walk.specs.Asks.{Again, Called, GivesUp, IsNotBusy, IsUnsettled, LeftOut, Once, Settles, Unsettled}
use Rattle.trio_walk.specs.Tries.{HasNothing, IsSettledAt, IsUnsettledAt, OthersHold}
use Rattle.trio_walk.specs.inner.Settling.{Ends, TriesOnce}

-- ---- settles

module _ {D E : Type 0} (called : D → Ask → Told → D → Type 0) (seen : D → DeskSeen) (d d' : D) (s s' : SessionSeen) (result : Result ℕ E)
    (call : OneCall called d (Settle s.parcel s.reads s.calls) d' (λ told. SeenAfter (seen d) (Settle s.parcel s.reads s.calls) told (seen d') × AfterSettle s result s' told) ⊥) (on : IsOn (seen d') s') where
  pub settled : (n : ℕ) → result ≡ Ok n → Settles called d s d' s' × IsSettledAt (seen d) s (seen d') s'
  settled n e = by call
    where
      told_by : (told : Told) → called d (Settle s.parcel s.reads s.calls) told d' → SeenAfter (seen d) (Settle s.parcel s.reads s.calls) told (seen d') → AfterSettle s result s' told
          → Settles called d s d' s' × IsSettledAt (seen d) s (seen d') s'
      told_by Settled made after then = (record { made = made; empty = then.1 }, record { seen = after; empty = then.1; on = on })
      told_by NotSettled made after then = absurd (let P : Result ℕ E → Type 0 = λ r. IsErr r in let wrong : IsErr {T = ℕ} {E = E} (Ok n) = subst P e then.0 in cc wrong)
      told_by told made after then = absurd then

      by : OneCall called d (Settle s.parcel s.reads s.calls) d' (λ told. SeenAfter (seen d) (Settle s.parcel s.reads s.calls) told (seen d') × AfterSettle s result s' told) ⊥
          → Settles called d s d' s' × IsSettledAt (seen d) s (seen d') s'
      by (Made told made then) = told_by told made then.0 then.1
      by (NotMade same alone) = absurd alone

  pub unsettled : (fault : E) → result ≡ Err fault → IsUnsettled called d s d' s' × IsUnsettledAt (seen d) s (seen d') s'
  unsettled fault e = by call
    where
      told_by : (told : Told) → called d (Settle s.parcel s.reads s.calls) told d' → SeenAfter (seen d) (Settle s.parcel s.reads s.calls) told (seen d') → AfterSettle s result s' told
          → IsUnsettled called d s d' s' × IsUnsettledAt (seen d) s (seen d') s'
      told_by Settled made after then = absurd (let wrong : Ok (length s.calls) ≡ Err fault = sym then.0 ∙ e in cc wrong)
      told_by NotSettled made after then = (record { made = made; same = then.1 }, record { seen = after; same = then.1; on = on })
      told_by told made after then = absurd then

      by : OneCall called d (Settle s.parcel s.reads s.calls) d' (λ told. SeenAfter (seen d) (Settle s.parcel s.reads s.calls) told (seen d') × AfterSettle s result s' told) ⊥
          → IsUnsettled called d s d' s' × IsUnsettledAt (seen d) s (seen d') s'
      by (Made told made then) = told_by told made then.0 then.1
      by (NotMade same alone) = absurd alone

-- what is settled has nothing
pub nothing_left : (s s' : SessionSeen) → s' ≡ record (emptied s) { room = s'.room } → HasNothing s'
nothing_left s s' empty = record {
  parcel = ap (λ (x : SessionSeen). x.parcel) empty;
  reads = ap (λ (x : SessionSeen). x.reads) empty;
  made = ap (λ (x : SessionSeen). x.made) empty;
  calls = ap (λ (x : SessionSeen). x.calls) empty;
}

-- ---- tries

module _ {D T : Type 0} (called : D → Ask → Told → D → Type 0) (Try : T → D → SessionSeen → Outcome → D → SessionSeen → Type 0) (what : T) (d : D) (s : SessionSeen) where
  -- one try makes the call, unless it is Busy
  pub called_once : (d' : D) (s' : SessionSeen) (end : Outcome) → IsNotBusy end → TriesOnce called (Try what) d s end d' s' → Called called (Try what) d s end d' s'
  called_once d' s' end quiet (Ends not tried) = Once not tried
  called_once d' s' end quiet (Gives holder d1 s1 is tried settles) = absurd (subst IsNotBusy is quiet)
  called_once d' s' end quiet (Leaves holder d1 s1 is tried un) = Unsettled holder d1 s1 is tried un

  -- after Busy a second one does
  pub called_again : (holder : Holder) (back : T) (d2 d' : D) (s2 s' : SessionSeen) (end : Outcome) → TriesOnce called (Try what) d s (Busy holder) d2 s2 → back ≡ what → s2.lib ≡ s.lib
      → (HasNothing s2 → OthersHold s2.lib end) → TriesOnce called (Try back) d2 s2 end d' s' → Called called (Try what) d s end d' s'
  called_again holder back d2 d' s2 s' end (Ends quiet tried) same lib others second = absurd quiet
  called_again holder back d2 d' s2 s' end (Leaves first d1 s1 is tried un) same lib others second = absurd (let wrong : Busy holder ≡ NoMemory = is in cc wrong)
  called_again holder back d2 d' s2 s' end (Gives first d1 s1 is tried settles) same lib others second = by (subst (λ (t : T). TriesOnce called (Try t) d2 s2 end d' s') same second)
    where
      by : TriesOnce called (Try what) d2 s2 end d' s' → Called called (Try what) d s end d' s'
      by (Ends quiet again) = Again first d1 d2 s1 s2 quiet tried settles again
      by (Gives last d3 s3 ends again settled') =
          GivesUp first last d1 d2 d3 s1 s2 s3 ends (λ mine. subst (OthersHold s2.lib) ends (others (nothing_left s1 s2 settles.empty)) (mine ∙ sym lib)) tried settles again settled'
      by (Leaves last d3 s3 ends again un) = LeftOut first last d1 d2 d3 s1 s2 s3 ends tried settles again un
