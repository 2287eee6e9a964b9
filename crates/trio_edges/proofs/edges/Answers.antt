use Rattle.trio_edges.proofs.Words.{◌∙◌, In, In-map, ap, arith, comes_to_root, entry_seen, get_or, inr, list_all, map, refl, sym}
use Rattle.std.proofs.lemmas.List.{take_all}
use Rattle.trio_lists.proofs.Filters.{get_or-In}
use Rattle.trio_edges.proofs.EdgeLemmas.{clear_keeps, clear_leaves, meets_all, breaks_not, lost_breaks}
use Rattle.trio_edges.proofs.edges.Goals as goal

pub returns-clause-holds : goal.returns-clause-holds
returns-clause-holds c =
    let l = c.args.listing.now.listing in
    let rows = c.args.rows.now in
    let clear = c.in_default.ensures.none in
    let entries = c.entries-entry-items.result.now in
    let all = ap (λ es. list_all (comes_to_root l rows) (map entry_seen es)) (sym (take_all c.loop-entry.entry-index entries (omega arith))) in
    meets_all _ _ _ (clear_keeps l rows clear) (clear_leaves l rows clear) (ap (list_all (comes_to_root l rows)) (sym c.entries-entry-items.ensures) ∙ all ∙ c.loop-entry.invariant)

pub returns-then-not-comes_to_root-clause-fails : goal.returns-then-not-comes_to_root-clause-fails
returns-then-not-comes_to_root-clause-fails c =
    let entries = c.entries-entry-items.result.now in
    let entry = get_or entries c.loop-entry.entry-index _ in
    let among : In (entry_seen entry) c.args.listing.now.listing.entries = rw c.entries-entry-items.ensures at (In-map entry_seen entry entries (get_or-In entries c.loop-entry.entry-index _ (omega arith))) in
    inr (inr (entry_seen entry, among, refl, sym c.if-not-comes_to_root.ensures))

pub returns-then-not-comes_to_root-clause-broken : goal.returns-then-not-comes_to_root-clause-broken
returns-then-not-comes_to_root-clause-broken c =
    let entries = c.entries-entry-items.result.now in
    let entry = get_or entries c.loop-entry.entry-index _ in
    let among : In (entry_seen entry) c.args.listing.now.listing.entries = rw c.entries-entry-items.ensures at (In-map entry_seen entry entries (get_or-In entries c.loop-entry.entry-index _ (omega arith))) in
    breaks_not c.args.listing.now.listing c.args.rows.now entry.ino (inr (inr (entry_seen entry, among, refl, sym c.if-not-comes_to_root.ensures)))

pub returns-in-Some-clause-broken : goal.returns-in-Some-clause-broken
returns-in-Some-clause-broken c = lost_breaks c.args.listing.now.listing c.args.rows.now c.in-Some.ino c.in-Some.ensures.some
