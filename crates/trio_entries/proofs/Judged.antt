-- What the rules on a bundle give of its listing.
use Rattle.trio_entries.proofs.Words.{◌&&◌, ◌∙◌, ◌∷◌, ◌≡◌, AreListedOnce, Case, CaseShown, HoldParts, In, Kind, LentFile, List, ListedEntry, Listing, Met, None, Notes, Option, Row, Some, [], and_parts, ap, are_new, bundle_pages, entry_is_own, entry_listed, is_among, is_some, judged_entries, judged_pages, length, length-map, lent_once, list_all, list_all-In, listing, map, meets_edges, meets_grammar, meets_owning, meets_rights, meets_rules, numbers, refl, row_in, sorted_by, sorted_in, sorted_new, subst, sym, true, whole_case}
use Rattle.trio_layout.specs.Allowed.{has_kind}
use Rattle.trio_case.proofs.Ordered.{order_length}
use Rattle.trio_entries.specs.Telling.{AreNoted}
use Rattle.trio_entries.specs.inner.Finding.{AreWrittenNoted, IsToldBy}
use Rattle.trio_entries.proofs.Finding.{find-first}
use Rattle.trio_entries.proofs.ToldOnce.{itself, new_parts}
use Rattle.trio_entries.proofs.Reading.{listed_readable}

entry_numbers : (c : Case) (ms : List Met) → map (λ (e : ListedEntry). e.ino) (map (entry_listed c) ms) ≡ numbers ms
entry_numbers c [] = refl
entry_numbers c (m ∷ ms) = ap (λ ns. m.ino ∷ ns) (entry_numbers c ms)

-- no number is listed twice
listed_once : (c : Case) → meets_rules c ≡ true → are_new [] (map (λ (e : ListedEntry). e.ino) (listing c).entries) ≡ true
listed_once c h =
    let three = (and_parts (meets_grammar c && meets_owning c && meets_edges (listing c) c.rows) (meets_rights c) h).0 in
    let two = (and_parts (meets_grammar c && meets_owning c) (meets_edges (listing c) c.rows) three).0 in
    let owning = (and_parts (meets_grammar c) (meets_owning c) two).1 in
    let once = (and_parts (list_all (λ page. is_among page (bundle_pages c.bundle)) (judged_pages c) && are_new [] (judged_pages c) && list_all (entry_is_own c) (judged_entries c)) (are_new [] (numbers (judged_entries c))) owning).1 in
    ap (are_new []) (entry_numbers c (judged_entries c)) ∙ once

-- each entry of the listing can be read, and is the first of its number
pub told_by : (k : CaseShown) (rows : List (Option Row)) (l : Listing) → l ≡ listing (whole_case k rows) → meets_rules (whole_case k rows) ≡ true → IsToldBy k l
told_by k rows l is h =
    λ e i.
    let c = whole_case k rows in
    let j : In e (listing c).entries = subst (λ (x : Listing). In e x.entries) is i in
    let r = listed_readable c e j in (
      record { slot = r.slot; bytes = r.bytes; here = r.here; part = r.part; says = r.says },
      rw is (find-first (λ (x : ListedEntry). x.ino) (listing c).entries e (listed_once c h) j),
    )

live : (kind : Kind) (o : Option Row) → has_kind kind o ≡ true → is_some o ≡ true
live kind None h = absurd cc
live kind (Some r) h = refl

-- the written files are live, and so noted
pub written_noted : (k : CaseShown) (rows : List (Option Row)) (notes : Notes) → list_all (λ (x : LentFile). has_kind x.stands.kind (row_in rows x.stands.ino)) k.bundle.writes ≡ true → AreNoted rows notes → AreWrittenNoted k notes
written_noted k rows notes fits noted =
    λ f i. noted f.stands.ino (live f.stands.kind (row_in rows f.stands.ino) (list_all-In (λ (x : LentFile). has_kind x.stands.kind (row_in rows x.stands.ino)) f k.bundle.writes fits i))

-- and stands once in it, as the held files do
pub told_apart : (k : CaseShown) (rows : List (Option Row)) (l : Listing) → l ≡ listing (whole_case k rows) → meets_rules (whole_case k rows) ≡ true → lent_once k ≡ true → AreListedOnce k l
told_apart k rows l is h once =
    let holds = map (λ (x : HoldParts). x.ino) k.bundle.holds in
    let lent = new_parts (map (λ (f : LentFile). f.stands.ino) k.bundle.writes) holds once in
    let held : l.held ≡ sorted_by (λ n. n) holds = ap (λ (x : Listing). x.held) is in
    record {
      lent = once;
      entries = ap (λ (x : Listing). are_new [] (map (λ (e : ListedEntry). e.ino) x.entries)) is ∙ listed_once (whole_case k rows) h;
      held = ap (are_new []) (held ∙ sym (itself (sorted_by (λ n. n) holds))) ∙ sorted_new (λ n. n) holds (ap (are_new []) (itself holds) ∙ lent.1);
      holds = λ n i. sorted_in (λ m. m) n holds (subst (λ ns. In n ns) held i);
      count = ap length held ∙ order_length holds ∙ length-map k.bundle.holds (λ (x : HoldParts). x.ino);
    }
