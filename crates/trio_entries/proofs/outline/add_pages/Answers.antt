use Rattle.trio_entries.proofs.Words.{◌++◌, ◌<◌, ◌∙◌, ◌≡◌, ◌≤◌, FreshParts, LentFile, LentPage, List, ap, append_assoc, arith, bundle_length, bundle_numbers, file_numbers, flat_map, get_or, length, length-append, length-map, map, sym, take, take_all}
use Rattle.trio_entries.proofs.Turns.{files_more, told_more}
use Rattle.trio_entries.proofs.outline.add_pages.Goals as goal

pub add_all-requires : goal.add_all-requires
add_all-requires c =
    let b = c.args.bundle.now in
    let fs = c.writes-lease-items.result.now in
    let i = c.loop-lease.lease-index in
    let f = c.lease-item.result in
    let number = λ (p : LentPage). p.no.0 in
    let same = ap (λ (xs : List LentFile). length (flat_map file_numbers xs)) c.writes-lease-items.ensures in
    let some = ap (λ (xs : List LentFile). length (flat_map file_numbers (take i xs))) c.writes-lease-items.ensures in
    let more = files_more file_numbers fs i f c.loop-lease-test.true c.lease-item.is in
    omega (arith, same, some, more, ap length c.loop-lease.invariant.0, c.loop-lease.invariant.1, c.requires.places, bundle_length b, length-append (map number f.stands.index) (map number f.stands.blocks))

pub add_all-requires-in-loop-lease : goal.add_all-requires-in-loop-lease
add_all-requires-in-loop-lease c =
    let b = c.args.bundle.now in
    let fs = c.writes-lease-items.result.now in
    let i = c.loop-lease.lease-index in
    let f = c.lease-item.result in
    let number = λ (p : LentPage). p.no.0 in
    let same = ap (λ (xs : List LentFile). length (flat_map file_numbers xs)) c.writes-lease-items.ensures in
    let some = ap (λ (xs : List LentFile). length (flat_map file_numbers (take i xs))) c.writes-lease-items.ensures in
    let more = files_more file_numbers fs i f c.loop-lease-test.true c.lease-item.is in
    let grown = ap length c.add_all.ensures.numbers ∙ length-append c.loop-lease.pages.items (map number f.stands.index) in
    omega (arith, same, some, more, grown, ap length c.loop-lease.invariant.0, c.loop-lease.invariant.1, c.add_all.ensures.capacity, c.requires.places, bundle_length b, length-append (map number f.stands.index) (map number f.stands.blocks))

pub loop-lease-preserved : goal.loop-lease-preserved
loop-lease-preserved c =
    let i = c.loop-lease.lease-index in
    let f = c.lease-item.result in
    let number = λ (p : LentPage). p.no.0 in
    let index = map number f.stands.index in
    let blocks = map number f.stands.blocks in
    let b = c.args.bundle.now in
    let within : i < length b.writes = omega (arith, c.loop-lease-test.true, ap length c.writes-lease-items.ensures) in
    let here : f ≡ get_or b.writes i f = c.lease-item.is ∙ ap (λ (fs : List LentFile). get_or fs i f) c.writes-lease-items.ensures in (
      told_more file_numbers b.writes i f c.loop-lease.pages.items c.add_all-in-loop-lease.new.pages.items within here c.loop-lease.invariant.0
          (c.add_all-in-loop-lease.ensures.numbers ∙ ap (λ ns. ns ++ blocks) c.add_all.ensures.numbers ∙ append_assoc c.loop-lease.pages.items index blocks),
      c.add_all-in-loop-lease.ensures.capacity ∙ c.add_all.ensures.capacity ∙ c.loop-lease.invariant.1,
    )

pub add_all-requires-2 : goal.add_all-requires-2
add_all-requires-2 c =
    let b = c.args.bundle.now in
    let far : length b.writes ≤ c.loop-lease.lease-index = omega (arith, c.loop-lease-test.false, ap length c.writes-lease-items.ensures) in
    let all = ap length (c.loop-lease.invariant.0 ∙ ap (λ (fs : List LentFile). flat_map file_numbers fs) (take_all c.loop-lease.lease-index b.writes far)) in
    omega (arith, all, c.loop-lease.invariant.1, c.requires.places, bundle_length b, ap length c.pages.ensures, length-map c.pages.result.now (λ (p : FreshParts). p.no.0))

pub returns : goal.returns
returns c =
    let b = c.args.bundle.now in
    let far : length b.writes ≤ c.loop-lease.lease-index = omega (arith, c.loop-lease-test.false, ap length c.writes-lease-items.ensures) in
    let all = c.loop-lease.invariant.0 ∙ ap (λ (fs : List LentFile). flat_map file_numbers fs) (take_all c.loop-lease.lease-index b.writes far) in
    c.add_all-2.ensures.numbers ∙ ap (λ ns. ns ++ map (λ (p : FreshParts). p.no.0) c.pages.result.now) all
    ∙ ap (λ (ps : List FreshParts). flat_map file_numbers b.writes ++ map (λ (p : FreshParts). p.no.0) ps) c.pages.ensures ∙ sym (bundle_numbers b)
