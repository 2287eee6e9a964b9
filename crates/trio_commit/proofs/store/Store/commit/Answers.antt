use Rattle.trio_commit.proofs.Words.{◌++◌, ◌∙◌, ◌≡◌, Bundle, HasPagesBelow, In, IsTrue, LentFile, Listing, None, Pages, Written, all_below, ap, arith, below_parts, bodies_home, bundle_in, bundle_pages, bundle_sheets, entry_seen, flat_map, kept_children, leases_in, length, length-map, length-with_all, map, page_changes, placed_files, subst, sym, with_bodies, with_children, with_pages, written_in, written_pages}
use Rattle.trio_commit.proofs.Cells.{owners_put}
use Rattle.trio_commit.proofs.Placing.{Checkpoints, PageList, length-with_bodies}
use Rattle.trio_commit.proofs.Rolling.{out_within}
use Rattle.trio_commit.proofs.store.Store.commit.Goals as goal

pub put_written-requires : goal.put_written-requires
put_written-requires c =
    λ m i. c.requires.places m (subst (λ fs. In m (placed_files c.args.self.now.rows (leases_in fs))) c.writes-2.ensures i)

pub bring_home-requires-clause-within : goal.bring_home-requires-clause-within
bring_home-requires-clause-within c =
    let s = c.args.self.now in
    let size = ap length c.put_written.ensures.home ∙ length-with_bodies (bodies_home s.rows s.checkpoints.items (leases_in c.writes-2.result.now)) s.home.pages in
    subst (λ n. IsTrue (all_below n (bundle_pages (bundle_in c.args.bundle)))) (sym size) c.requires.within

pub bring_home-requires-clause-table : goal.bring_home-requires-clause-table
bring_home-requires-clause-table c =
    let s = c.args.self.now in
    c.requires.table
    ∙ sym (ap length c.put_written.ensures.home ∙ length-with_bodies (bodies_home s.rows s.checkpoints.items (leases_in c.writes-2.result.now)) s.home.pages)

pub bring_home-requires-clause-allotted : goal.bring_home-requires-clause-allotted
bring_home-requires-clause-allotted c = out_within c.args.self.now.allotments c.args.lib (bundle_in c.args.bundle) c.requires.allotted

pub put_kept-requires-clause-slots : goal.put_kept-requires-clause-slots
put_kept-requires-clause-slots c = λ e i. c.requires.slots e (subst (λ es. In e es) c.entries.ensures i)

pub put_kept-requires-clause-no_root : goal.put_kept-requires-clause-no_root
put_kept-requires-clause-no_root c =
    λ e i same.
    let above = (c.requires.numbers.entries e (subst (λ es. In e es) c.entries.ensures i)).0 in
    absurd (omega (arith, above, same))

pub put_owners-requires : goal.put_owners-requires
put_owners-requires c =
    let s = c.args.self.now in
    let size = ap length c.bring_home.ensures.owners ∙ length-with_all 0 (written_pages (bundle_in c.args.bundle)) s.owners in
    subst (λ n. HasPagesBelow n c.args.listing.listing) (sym size) c.requires.listed

pub returns-clause-home : goal.returns-clause-home
returns-clause-home c =
    let s = c.args.self.now in
    let b : Bundle = bundle_in c.args.bundle in
    let l : Listing = c.args.listing.listing in
    let cs : Checkpoints = s.checkpoints.items in
    let home : PageList = s.home.pages in
    let lent : Checkpoints = with_children (placed_files s.rows b) cs in
    let lent_is : c.deref.result.now ≡ lent = c.deref.ensures.value ∙ c.put_written.ensures.checkpoints ∙ ap (λ fs. with_children (placed_files s.rows (leases_in fs)) cs) c.writes-2.ensures in
    c.put_kept.ensures.home
    ∙ ap (λ xs. with_bodies (kept_children xs (map entry_seen c.entries.result.now)) c.bring_home.new.home.pages) lent_is
    ∙ ap (λ es. with_bodies (kept_children lent es) c.bring_home.new.home.pages) c.entries.ensures
    ∙ ap (λ (h : Pages). with_bodies (kept_children lent l.entries) h.pages) c.bring_home.ensures.home
    ∙ ap (λ ps. with_bodies (kept_children lent l.entries) (with_pages (bundle_sheets b) ps))
    (c.put_written.ensures.home ∙ ap (λ fs. with_bodies (bodies_home s.rows cs (leases_in fs)) home) c.writes-2.ensures)

pub returns-clause-owners : goal.returns-clause-owners
returns-clause-owners c =
    let s = c.args.self.now in
    let b : Bundle = bundle_in c.args.bundle in
    let within = (below_parts (length s.home.pages) (flat_map (λ (w : Written). w.index ++ w.blocks) b.writes) b.pages c.requires.within).0 in
    let below = subst (λ n. IsTrue (all_below n (written_pages b))) (sym c.requires.table) within in
    λ page.
    c.put_owners.ensures.owners page
    ∙ owners_put c.args.listing.listing s.owners c.bring_home.new.owners (written_pages b) page below c.requires.handed c.bring_home.ensures.owners

pub returns-clause-sizes : goal.returns-clause-sizes
returns-clause-sizes c =
    (c.put_rows.ensures.size, c.put_owners.ensures.size ∙ ap length c.bring_home.ensures.owners ∙ length-with_all 0 (written_pages (bundle_in c.args.bundle)) c.args.self.now.owners)

pub returns-clause-looked : goal.returns-clause-looked
returns-clause-looked c =
    let s = c.args.self.now in
    let cs : Checkpoints = s.checkpoints.items in
    let lent_is = c.deref.ensures.value ∙ c.put_written.ensures.checkpoints ∙ ap (λ fs. with_children (placed_files s.rows (leases_in fs)) cs) c.writes-2.ensures in
    let kept = ap (λ xs. page_changes None (kept_children xs (map entry_seen c.entries.result.now))) lent_is
    ∙ ap (λ es. page_changes None (kept_children (with_children (placed_files s.rows (bundle_in c.args.bundle)) cs) es)) c.entries.ensures in
    let count = length-map c.args.bundle.writes (λ (f : LentFile). written_in f.stands) ∙ ap length (sym c.writes-2.ensures) in
    let brought = ap (λ (h : Pages). h.looked) c.bring_home.ensures.home in
    let first = c.put_written.ensures.looked in
    let second = c.put_kept.ensures.looked in
    omega (arith, kept, count, brought, first, second)

pub returns-clause-reads : goal.returns-clause-reads
returns-clause-reads c =
    let s = c.args.self.now in
    let cs : Checkpoints = s.checkpoints.items in
    let lent_is = c.deref.ensures.value ∙ c.put_written.ensures.checkpoints ∙ ap (λ fs. with_children (placed_files s.rows (leases_in fs)) cs) c.writes-2.ensures in
    let kept = ap (λ xs. page_changes None (kept_children xs (map entry_seen c.entries.result.now))) lent_is
    ∙ ap (λ es. page_changes None (kept_children (with_children (placed_files s.rows (bundle_in c.args.bundle)) cs) es)) c.entries.ensures in
    let count = length-map c.args.bundle.writes (λ (f : LentFile). written_in f.stands) ∙ ap length (sym c.writes-2.ensures) in
    let first = c.put_written.ensures.reads in
    let second = c.put_kept.ensures.reads in
    omega (arith, kept, count, first, second)

pub returns-clause-floor : goal.returns-clause-floor
returns-clause-floor c =
    let brought = ap (λ (h : Pages). h.looked) c.bring_home.ensures.home in
    let first = c.put_written.ensures.floor in
    let second = c.put_kept.ensures.floor in
    omega (arith, brought, first, second)
