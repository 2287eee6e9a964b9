use Rattle.trio_ctl.proofs.Words.{Entry, List, ap, arith, image_in, length, refl, sizes_in, Controller, vec_len}
use Rattle.std.proofs.Math.Nat.{le-min}
use Rattle.trio_ctl.proofs.Ends.{after_begin}
use Rattle.trio_ctl.proofs.Keeping.{spare_there}
use Rattle.trio_ctl.proofs.Seen.{more_places}
use Rattle.trio_ctl.proofs.Spending.{spends_so}
use Rattle.trio_ctl.proofs.ctl.Ctl.make_room.Goals as goal

pub invariant_of-self-2 : goal.invariant_of-self-2
invariant_of-self-2 c =
    let i = c.self.inside in
    let first = image_in i.first.value.superblock i.first.value.pages in
    let h = c.self.invariant.0 in
    let long = ap (λ (es : List Entry). length es) c.make_places.ensures.kept in
    let room = h.room in
    let grows = c.make_places.ensures.grows in (
      after_begin first i.registry.state i.registry.state i.registry.begun i.registry.begun i.registry.promised i.registry.promised i.log c.make_places.new.log i.notes h refl h.underway c.make_places.ensures.kept (omega (arith, long, room, grows)),
      c.keep.ensures.spare (sizes_in first) c.self.invariant.1 (spare_there i.registry.state first c.in_ok-more.more h.sizes c.in_ok-more.ensures.spare),
    )

pub returns-clause-entries : goal.returns-clause-entries
returns-clause-entries c =
    let places = c.in_ok-make_places.ensures.room in
    let promised = c.promised.ensures in
    le-min (omega (arith, places, promised)) (c.keep.ensures.enough c.args.entries c.args.bytes c.in_ok-more.ensures.more)

pub invariant_of-self : goal.invariant_of-self
invariant_of-self c =
    let i = c.self.inside in
    (more_places (image_in i.first.value.superblock i.first.value.pages) i.registry.state i.registry.begun i.registry.promised i.log c.make_places.new.log i.notes c.self.invariant.0 c.make_places.ensures.kept c.make_places.ensures.grows, c.self.invariant.1)

pub returns-clause-kept_entries : goal.returns-clause-kept_entries
returns-clause-kept_entries c =
    let long = ap (λ (es : List Entry). length es) c.make_places.ensures.kept in
    let grows = c.keep.ensures.grows c.args.entries c.args.bytes c.in_ok-more.ensures.more in
    let spends = spends_so c.self.inside.log c.self.inside.registry.promised (vec_len c.self.inside.spares.kits) c.self.inside.spares.bytes (ap (λ (x : Controller). x.spare) c.self.view_is) 0 c.make_places.new.log c.self.inside.registry.promised (vec_len c.keep.new.self.kits) c.self.inside.spares.bytes (omega (arith, long)) c.make_places.ensures.grows (omega (arith, grows)) refl in
    let falls = spends.entries in
    omega (arith, falls)
