use Rattle.trio_proposal.proofs.Words.{◌++◌, ◌∙◌, ArePut, AreWithin, In-left, In-right, MarksJust, [], ap, flat_map, fresh_sheet, lease_sheets, length, map, sheet_numbers, subst, sym, with_pages}
use Rattle.trio_proposal.proofs.Puts.{put_both, put_long, sheets_are}
use Rattle.trio_proposal.proofs.pages.put_bundle.Goals as goal

pub put_leases-requires : goal.put_leases-requires
put_leases-requires c =
    let b = c.args.bundle.now in
    let within : AreWithin (length c.args.home.now.pages) (flat_map lease_sheets b.writes ++ map fresh_sheet b.pages) =
    subst (AreWithin (length c.args.home.now.pages)) (sheets_are b) c.requires in
    rw c.writes.ensures (λ x i. within x (In-left x (flat_map lease_sheets b.writes) (map fresh_sheet b.pages) i))

pub put_fresh-requires : goal.put_fresh-requires
put_fresh-requires c =
    let b = c.args.bundle.now in
    let within : AreWithin (length c.args.home.now.pages) (flat_map lease_sheets b.writes ++ map fresh_sheet b.pages) =
    subst (AreWithin (length c.args.home.now.pages)) (sheets_are b) c.requires in
    let long = put_long (flat_map lease_sheets c.writes.result.now) c.args.home.now.pages c.put_leases.new.home.pages c.in_ok-marks.marks.items c.put_leases.new.marks.items c.in_ok-put_leases.ensures in
    rw (c.pages.ensures, long) (λ x i. within x (In-right x (flat_map lease_sheets b.writes) (map fresh_sheet b.pages) i))

pub returns-clause-pages : goal.returns-clause-pages
returns-clause-pages c =
    let b = c.args.bundle.now in
    let one = subst (λ ws. ArePut (flat_map lease_sheets ws) c.args.home.now.pages c.put_leases.new.home.pages c.in_ok-marks.marks.items c.put_leases.new.marks.items) c.writes.ensures c.in_ok-put_leases.ensures in
    let two = subst (λ ps. ArePut (map fresh_sheet ps) c.put_leases.new.home.pages c.put_fresh.new.home.pages c.put_leases.new.marks.items c.put_fresh.new.marks.items) c.pages.ensures c.in_ok-put_fresh.ensures in
    let all = put_both (flat_map lease_sheets b.writes) (map fresh_sheet b.pages) c.args.home.now.pages c.put_leases.new.home.pages c.put_fresh.new.home.pages c.in_ok-marks.marks.items c.put_leases.new.marks.items c.put_fresh.new.marks.items one two in
    all.pages ∙ ap (λ xs. with_pages xs c.args.home.now.pages) (sym (sheets_are b))

pub returns-clause-marks : goal.returns-clause-marks
returns-clause-marks c =
    let b = c.args.bundle.now in
    let one = subst (λ ws. ArePut (flat_map lease_sheets ws) c.args.home.now.pages c.put_leases.new.home.pages c.in_ok-marks.marks.items c.put_leases.new.marks.items) c.writes.ensures c.in_ok-put_leases.ensures in
    let two = subst (λ ps. ArePut (map fresh_sheet ps) c.put_leases.new.home.pages c.put_fresh.new.home.pages c.put_leases.new.marks.items c.put_fresh.new.marks.items) c.pages.ensures c.in_ok-put_fresh.ensures in
    let all = put_both (flat_map lease_sheets b.writes) (map fresh_sheet b.pages) c.args.home.now.pages c.put_leases.new.home.pages c.put_fresh.new.home.pages c.in_ok-marks.marks.items c.put_leases.new.marks.items c.put_fresh.new.marks.items one two in
    subst (λ xs. MarksJust c.put_fresh.new.marks.items (sheet_numbers xs)) (sym (sheets_are b)) (all.marked [] c.in_ok-marks.ensures.marks)
