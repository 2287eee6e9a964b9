-- A session that may make calls may walk, and may make calls with what a walk takes.
use Rattle.trio_calls_file.proofs.Words.{◌∷◌, Ask, DeskSeen, HoldLease, IsOn, Lease, List, MayCall, MayWalk, ReadLease, SameDesk, SessionSeen, Told, Way, WriteLease, [], batch_nodes, may_alike, may_same, on_alike, refl, sees_directory, shows_calls, with_lease, with_leases}
use Rattle.trio_edit_laws.proofs.Walkable.{hand_out, kind_shows, listed_now, looked_held, may_hold, may_read, may_write}
use Rattle.trio_desk.specs.Calls as desk_calls
use Rattle.trio_session.proofs.Alike.{alike_back}
use Rattle.trio_walk.specs.Walks.{IsLentNow, Lends}

pub may_walk : (desk : DeskSeen) (s : SessionSeen) → MayCall desk s → MayWalk desk s
may_walk desk s may = record {
  on = may.edits.on;
  comes = may.comes;
  order = may.edits.order;
  alone = may.edits.alone;
  kinds = λ ino kind o nodes rows p. kind_shows desk s may nodes rows p ino kind o;
  sees = λ dir o nodes rows p.
      let v = sees_directory desk s dir nodes (batch_nodes desk.creds s.calls nodes) rows may.edits o (shows_calls desk s may nodes rows p) in
      record { rights = v.rights; named = v.named; entries = v.entries; made = v.made };
  numbers = λ f i. (may.edits.all.given.writes f i).same.ino;
  beside = may.edits.beside;
  own = looked_held desk s may;
  pages = hand_out desk s may;
  made = may.edits.made.numbers;
  held = may.edits.held;
}

-- ---- what a walk takes

may_one : (desk desk' : DeskSeen) (s : SessionSeen) → MayCall desk s → (lease : Lease) → IsLentNow desk s lease desk' → MayCall desk' (with_lease s lease)
may_one desk desk' s may (WriteLease f) lent = may_write desk desk' s may f lent.unserved lent.fresh lent.seen lent.on
may_one desk desk' s may (ReadLease f) lent = may_read desk desk' s may f lent.unserved lent.fresh lent.seen lent.on
may_one desk desk' s may (HoldLease h) lent =
    let l = lent.listed h refl in
    may_hold desk desk' s may h lent.unserved (listed_now desk s h.ino l.directory may l.opens (λ nodes rows p. l.lists nodes rows p)) (λ nodes rows p. lent.above h refl nodes rows p) lent.fresh lent.seen lent.on

-- So it may with all of them, where it stands on the desk then.
pub lends_may : (more : List Lease) (desk desk' : DeskSeen) (s : SessionSeen) → MayCall desk s → Lends desk s more desk' → IsOn desk' (with_leases s more) → MayCall desk' (with_leases s more)
lends_may [] desk desk' s may same on =
    let e : SameDesk desk desk' = record { lib = same.lib; creds = same.creds; sizes = same.sizes; root = same.root } in may_same desk desk' s e may on
lends_may (lease ∷ more) desk desk' s may lends on = lends_may more lends.0 desk' (with_lease s lease) (may_one desk lends.0 s may lease lends.1) lends.2 on

pub way_may : {D : Type 0} (called : D → Ask → Told → D → Type 0) (seen : D → DeskSeen) (d : D) (s : SessionSeen) (more : List Lease) (last : List desk_calls.Call) (d1 : D) (s1 : SessionSeen)
    → MayCall (seen d) s → Way called seen d s more last d1 s1 → MayWalk (seen d1) s1 → MayCall (seen d1) s1
way_may called seen d s more last d1 s1 may way walks =
    may_alike (seen d1) (with_leases s more) s1 way.took.same
    (lends_may more (seen d) (seen d1) s may way.lends (on_alike (seen d1) s1 (with_leases s more) (alike_back (with_leases s more) s1 way.took.same) walks.on))
