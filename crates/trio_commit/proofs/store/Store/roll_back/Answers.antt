use Rattle.trio_commit.proofs.Words.{◌++◌, ◌∙◌, ◌≡◌, IsTrue, IsWithinImage, LentFile, List, None, Pages, Sheet, all_below, ap, as_before, bundle_in, bundle_pages, flat_map, fresh_sheet, lease_numbers, length, length-map, lent_uncovered, map, subst, sym, uncovered_sheets, with_all, with_pages}
use Rattle.std.specs.Vec.{with_items}
use Rattle.std.proofs.lemmas.List.{with_items_is}
use Rattle.trio_lease.specs.Bundles.{Bundled}
use Rattle.trio_commit.specs.Handed.{written_numbers}
use Rattle.trio_commit.proofs.Bringing.{pages_before, uncovered_are}
use Rattle.trio_commit.proofs.PutBack.{Checkpoints, covered_by}
use Rattle.trio_commit.proofs.Rolling.{numbers_are, out_within, still_within}
use Rattle.trio_commit.proofs.store.Store.roll_back.Goals as goal

pub restore_written-requires-clause-once : goal.restore_written-requires-clause-once
restore_written-requires-clause-once c =
    let cs : Checkpoints = c.args.self.now.checkpoints.items in
    let parts = c.parts-parts.result in
    let files : List LentFile = parts.writes.items in
    let gives : c.give_bodies_back.new.writes ≡ map (as_before cs) files = rw (c.deref.ensures.value, c.deref_mut.ensures.value) at c.give_bodies_back.ensures in
    let items : (with_items parts.writes c.give_bodies_back.new.writes).items ≡ map (as_before cs) files =
    ap (λ xs. (with_items parts.writes xs).items) gives ∙ with_items_is parts.writes (map (as_before cs) files) (length-map files (as_before cs) ∙ sym parts.writes.ok.0) in
    let numbers : lease_numbers c.deref-2.result.now ≡ written_numbers (bundle_in c.args.bundle) = ap lease_numbers (c.deref-2.ensures.value ∙ items) ∙ numbers_are parts c.args.bundle cs c.parts-parts.ensures in
    rw numbers c.requires.once

pub restore_written-requires-clause-covered : goal.restore_written-requires-clause-covered
restore_written-requires-clause-covered c =
    let cs : Checkpoints = c.args.self.now.checkpoints.items in
    let parts = c.parts-parts.result in
    let files : List LentFile = parts.writes.items in
    let gives : c.give_bodies_back.new.writes ≡ map (as_before cs) files = rw (c.deref.ensures.value, c.deref_mut.ensures.value) at c.give_bodies_back.ensures in
    let items : (with_items parts.writes c.give_bodies_back.new.writes).items ≡ map (as_before cs) files =
    ap (λ xs. (with_items parts.writes xs).items) gives ∙ with_items_is parts.writes (map (as_before cs) files) (length-map files (as_before cs) ∙ sym parts.writes.ok.0) in
    let numbers : lease_numbers c.deref-2.result.now ≡ written_numbers (bundle_in c.args.bundle) = ap lease_numbers (c.deref-2.ensures.value ∙ items) ∙ numbers_are parts c.args.bundle cs c.parts-parts.ensures in
    rw numbers c.requires.covered

pub bring_uncovered-requires-clause-within : goal.bring_uncovered-requires-clause-within
bring_uncovered-requires-clause-within c =
    let cs : Checkpoints = c.args.self.now.checkpoints.items in
    let parts = c.parts-parts.result in
    let files : List LentFile = parts.writes.items in
    let gives : c.give_bodies_back.new.writes ≡ map (as_before cs) files = rw (c.deref.ensures.value, c.deref_mut.ensures.value) at c.give_bodies_back.ensures in
    let items : (with_items parts.writes c.give_bodies_back.new.writes).items ≡ map (as_before cs) files =
    ap (λ xs. (with_items parts.writes xs).items) gives ∙ with_items_is parts.writes (map (as_before cs) files) (length-map files (as_before cs) ∙ sym parts.writes.ok.0) in
    let pages =
    pages_before cs files (map fresh_sheet parts.pages.items) (with_items parts.writes c.give_bodies_back.new.writes).items items
    ∙ ap (λ (b : Bundled). bundle_pages (bundle_in b)) c.parts-parts.ensures in
    let now : Pages = c.restore_written.new.home in
    subst (λ ns. IsTrue (all_below (length now.pages) ns)) (sym pages)
    (still_within c.args.self.now.home now (covered_by cs (lease_numbers c.deref-2.result.now)) (bundle_pages (bundle_in c.args.bundle)) c.restore_written.ensures.home c.requires.within)

pub bring_uncovered-requires-clause-allotted : goal.bring_uncovered-requires-clause-allotted
bring_uncovered-requires-clause-allotted c =
    let within = subst (λ (b : Bundled). IsWithinImage c.args.self.now.allotments (bundle_in b)) (sym c.parts-parts.ensures) (out_within c.args.self.now.allotments c.args.lib (bundle_in c.args.bundle) c.requires.allotted) in
    record { pages = within.pages; numbers = within.numbers }

pub returns-clause-home : goal.returns-clause-home
returns-clause-home c =
    let cs : Checkpoints = c.args.self.now.checkpoints.items in
    let parts = c.parts-parts.result in
    let files : List LentFile = parts.writes.items in
    let gives : c.give_bodies_back.new.writes ≡ map (as_before cs) files = rw (c.deref.ensures.value, c.deref_mut.ensures.value) at c.give_bodies_back.ensures in
    let items : (with_items parts.writes c.give_bodies_back.new.writes).items ≡ map (as_before cs) files =
    ap (λ xs. (with_items parts.writes xs).items) gives ∙ with_items_is parts.writes (map (as_before cs) files) (length-map files (as_before cs) ∙ sym parts.writes.ok.0) in
    let numbers : lease_numbers c.deref-2.result.now ≡ written_numbers (bundle_in c.args.bundle) = ap lease_numbers (c.deref-2.ensures.value ∙ items) ∙ numbers_are parts c.args.bundle cs c.parts-parts.ensures in
    let b = bundle_in c.args.bundle in
    let now : Pages = c.restore_written.new.home in
    c.bring_uncovered.ensures.home
    ∙ ap (λ (xs : List Sheet). record now { pages = with_pages (xs ++ map fresh_sheet parts.pages.items) now.pages }) (ap (flat_map uncovered_sheets) items ∙ uncovered_are cs files)
    ∙ ap (λ (x : Bundled). record now { pages = with_pages (lent_uncovered cs (bundle_in x) ++ (bundle_in x).pages) now.pages }) c.parts-parts.ensures
    ∙ ap (λ (h : Pages). record h { pages = with_pages (lent_uncovered cs b ++ b.pages) h.pages })
    (c.restore_written.ensures.home ∙ ap (λ ns. record c.args.self.now.home { pages = with_pages (covered_by cs ns) c.args.self.now.home.pages }) numbers)

pub returns-clause-checkpoints : goal.returns-clause-checkpoints
returns-clause-checkpoints c =
    let cs : Checkpoints = c.args.self.now.checkpoints.items in
    let parts = c.parts-parts.result in
    let files : List LentFile = parts.writes.items in
    let gives : c.give_bodies_back.new.writes ≡ map (as_before cs) files = rw (c.deref.ensures.value, c.deref_mut.ensures.value) at c.give_bodies_back.ensures in
    let items : (with_items parts.writes c.give_bodies_back.new.writes).items ≡ map (as_before cs) files =
    ap (λ xs. (with_items parts.writes xs).items) gives ∙ with_items_is parts.writes (map (as_before cs) files) (length-map files (as_before cs) ∙ sym parts.writes.ok.0) in
    let numbers : lease_numbers c.deref-2.result.now ≡ written_numbers (bundle_in c.args.bundle) = ap lease_numbers (c.deref-2.ensures.value ∙ items) ∙ numbers_are parts c.args.bundle cs c.parts-parts.ensures in
    c.restore_written.ensures.checkpoints ∙ ap (λ ns. with_all None ns cs) numbers
