-- A session that may make calls: how it begins, and that it may always settle.
use Rattle.trio_edit_laws.proofs.Words.{◌≡◌, Ask, DeskSeen, IsOn, LibOut, Made, MayCall, MayEdit, NotMade, NotSettled, OneCall, Result, SameDesk, SeenAfter, SessionSeen, Settled, Told, [], desk_same, emptied, in_hand, nothing_is_ready, refl, same_seen, subst, sym, ℕ}
use Rattle.trio_desk.specs.Call.{Settle}
use Rattle.trio_session.specs.Asked.{AfterSettle}
use Rattle.trio_edit_laws.specs.Calls.{BeginsToCall, MayBeSettled}
use Rattle.trio_edit_laws.proofs.Beginning.{begins_to_edit}
use Rattle.trio_edit_laws.proofs.HandsIn.{hands_in, sound}
use Rattle.trio_edit_laws.proofs.Shown.{comes_now, order_now}
use Rattle.trio_edit_laws.proofs.Taken.{chains_now, entries_now, held_now, made_now, shows_now}

emptied-calls : (desk : DeskSeen) (s : SessionSeen) → MayEdit desk (emptied s) → MayCall desk (emptied s)
emptied-calls desk s edits = record { edits = edits; comes = nothing_is_ready desk []; made = λ d i some. absurd i; spent = refl; spent_numbers = refl }

pub begins_to_call : BeginsToCall
begins_to_call desk s b = subst (MayCall desk) (sym b.empty) (emptied-calls desk s (subst (MayEdit desk) b.empty (begins_to_edit desk s b).0))

pub may_be_settled : MayBeSettled
may_be_settled desk s m = record { all = m.edits.all; made = m.made; comes = m.comes }

-- ---- after a call of the desk

-- on a desk that has other things out, on which it stands, the session may go on as before
may_now : (desk : DeskSeen) (out' : LibOut) (s : SessionSeen) → MayCall desk s → IsOn (record desk { out = out' }) s → MayCall (record desk { out = out' }) s
may_now desk out' s may on = record {
  edits = record {
    on = on;
    all = hands_in (record desk { out = out' }) s on (sound desk.out s.parcel s.reads may.edits.all);
    given = record { holds = may.edits.given.holds; numbers = may.edits.given.numbers };
    order = order_now desk out' (in_hand s) may.edits.order;
    shows = shows_now desk out' s may.edits.shows;
    alone = may.edits.alone;
    beside = may.edits.beside;
    chains = chains_now desk out' s may.edits.chains;
    own = may.edits.own;
    once = may.edits.once;
    placed = may.edits.placed;
    made = made_now desk out' s may.edits.made;
    entries = entries_now desk out' s may.edits.entries;
    held = held_now desk out' s may.edits.held;
  };
  comes = comes_now desk out' (in_hand s) s.calls may.comes;
  made = may.made;
  spent = may.spent;
  spent_numbers = may.spent_numbers;
}

pub may_same : (desk desk' : DeskSeen) (s : SessionSeen) → SameDesk desk desk' → MayCall desk s → IsOn desk' s → MayCall desk' s
may_same desk desk' s same may on =
    let e = desk_same desk desk' same in
    subst (λ (k : DeskSeen). MayCall k s) (sym e) (may_now desk desk'.out s may (subst (λ (k : DeskSeen). IsOn k s) e on))

pub may_after : (desk desk' : DeskSeen) (ask : Ask) (told : Told) (s : SessionSeen) → SeenAfter desk ask told desk' → MayCall desk s → IsOn desk' s → MayCall desk' s
may_after desk desk' ask told s seen may on = may_same desk desk' s (same_seen desk desk' ask told seen) may on

-- ---- after a settle

-- it is empty then
pub may_settled : (desk' : DeskSeen) (s s' : SessionSeen) → s' ≡ record (emptied s) { room = s'.room } → IsOn desk' s' → MayCall desk' s'
may_settled desk' s s' empty on =
    subst (MayCall desk') (sym empty)
    (let e : SessionSeen = record (emptied s) { room = s'.room } in
    let o : IsOn desk' e = subst (IsOn desk') empty on in
    begins_to_call desk' e (record { lib = o.lib; creds = o.creds; out = record { writes = o.out.writes; reads = o.out.reads; holds = o.out.holds; pages = o.out.pages; numbers = o.out.numbers }; empty = refl }))

-- or all is as before
pub may_unsettled : (desk desk' : DeskSeen) (s s' : SessionSeen) → MayCall desk s → SeenAfter desk (Settle s.parcel s.reads s.calls) NotSettled desk' → s' ≡ s → IsOn desk' s' → MayCall desk' s'
may_unsettled desk desk' s s' may seen same on = subst (MayCall desk') (sym same) (may_after desk desk' (Settle s.parcel s.reads s.calls) NotSettled s seen may (subst (IsOn desk') same on))

-- however it ended, the session may go on
pub settle_may : {D E : Type 0} (called : D → Ask → Told → D → Type 0) (seen : D → DeskSeen) (d d' : D) (s s' : SessionSeen) (result : Result ℕ E)
    → OneCall called d (Settle s.parcel s.reads s.calls) d' (λ told. SeenAfter (seen d) (Settle s.parcel s.reads s.calls) told (seen d') × AfterSettle s result s' told) ⊥
    → MayCall (seen d) s → IsOn (seen d') s' → MayCall (seen d') s'
settle_may called seen d d' s s' result (NotMade same none) may on = absurd none
settle_may called seen d d' s s' result (Made told made then) may on = by told then.0 then.1
  where
    by : (told : Told) → SeenAfter (seen d) (Settle s.parcel s.reads s.calls) told (seen d') → AfterSettle s result s' told → MayCall (seen d') s'
    by Settled seen' after = may_settled (seen d') s s' after.1 on
    by NotSettled seen' after = may_unsettled (seen d) (seen d') s s' may seen' after.1 on
    by told seen' after = absurd after
