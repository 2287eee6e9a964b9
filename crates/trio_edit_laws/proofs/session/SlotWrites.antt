-- Slots of directories are written anew, so that the file of one number is listed elsewhere, or not at all: each judged file reads as before
-- but for that; and what follows of the nodes that are shown and of what is judged then.
use Rattle.trio_edit_laws.proofs.Words.{◌++◌, ◌∙◌, ◌≡◌, ◌⊎◌, AreSlotWrites, Becomes, Bundle, Case, Core, DeskSeen, Directory, FileRead, Held, In, In-cases, In-flat, In-is_among, In-left, In-map, In-right, InHand, IsEmptyFile, IsFreeName, IsInOrder, IsTree, Kind, List, Listed, MayShow, Met, Naming, Nodes, None, Ok, Ok-one, Option, Regular, Row, Shows, SlotWrite, Some, Written, [], and_from, and_parts, ap, append_assoc, are_new, are_new-append, are_new-before, are_new-fewer, arith, bare, bare_at, body_after, body_before, both_ways, bundle_core, bundle_of, bytes_as_before, bytes_now, bytes_read, case_as_stands, case_in_hand, case_with, cases_Bool, children_in, each_new, entries_in, entries_or_none, entry_in_grammar, entry_is_own, entry_keeps_rights, file_as_before, file_within, flat_map-In, fronts_listed, hand_files_once, held_by, inl, inr, is_among, is_among-In, is_written, judged_also, judged_entries, judged_made, judged_once, judged_pages, listed_at, listed_in_hand, map, map-In, map-append, map-each, map-map, met_in, named_alike, naming_of, new_between, new_entries, new_entry, node_at, node_left, numbers, numbers-flat, one_keyed, one_of, option_map, page_of, pages_in, pages_listed, pages_within, plain, refl, row_in, slot_after, slot_before, some_one, sorted-map, sorted_by, start_judged, start_number, subst, sym, true, with_bytes, written_among, written_files, written_met, ℕ, is_directory, cond, take, pages_bytes, false, Bool}
use Rattle.std.proofs.Common.{◌↔◌}
use Rattle.std.specs.Prelude.{take}
use Rattle.trio_layout.specs.JudgedFiles.{judged_files}
use Rattle.trio_edit_laws.specs.session.SlotEdits.{IsAfter, IsListedBy, KeepsTree}
use Rattle.trio_edit_laws.proofs.session.EditedOrder.{bundle_then, case_is, order_stays, possible_before}
use Rattle.trio_edit_laws.proofs.session.Judged.{judged_data, IsShown, closed_before, entry_named, owned, seen, written_live}
use Rattle.trio_edit_laws.proofs.session.NamedAnew.{IsBare, IsNamedAnew, IsTaken, New, Old, Rereads, judged_from, judged_to, listed_before, met_at, named_else, named_here, shown}
use Rattle.trio_edit_laws.proofs.session.SlotPages.{AtMostOne, IsRewritten, SlotAround, listed_one, slot_around}
use Rattle.trio_laws.proofs.session.Stands.{IsAlike}
use Rattle.trio_edit_laws.proofs.session.ListedPages.{stands}

-- ---- numbers

new_without : (front mid back : List ℕ) → are_new [] (front ++ (mid ++ back)) ≡ true → are_new [] (front ++ back) ≡ true
new_without front mid back e = search (arith, and_parts, are_new-append, and_from, are_new-fewer, In-left)

new_replaced : (front mid mid' back : List ℕ) → are_new [] (front ++ (mid ++ back)) ≡ true → are_new [] mid' ≡ true → ((n : ℕ) → In n mid' → In n (front ++ back) → ⊥) → are_new [] (front ++ (mid' ++ back)) ≡ true
new_replaced front mid mid' back e once apart =
    ap (are_new []) (sym (append_assoc front mid' back)) ∙ new_between front mid' back (new_without front mid back e) once apart

-- what stands in the middle stands nowhere else
new_apart : (front mid back : List ℕ) (n : ℕ) → are_new [] (front ++ (mid ++ back)) ≡ true → In n mid → In n (front ++ back) → ⊥
new_apart front mid back n e i j =
    let a = and_parts (are_new [] front) (are_new front (mid ++ back)) (sym (are_new-append [] front (mid ++ back)) ∙ e) in
    let q = and_parts (are_new front mid) (are_new (front ++ mid) back) (sym (are_new-append front mid back) ∙ a.1) in
    elim (In-cases n front back j) [
      | inl k ↦ are_new-before n front mid q.0 i k
      | inr k ↦ are_new-before n (front ++ mid) back q.1 k (In-right n front mid i)
    ]

abbrev number : Listed → ℕ
number l = l.entry.ino

numbers_around : (front mid back : List Listed) → map number (front ++ (mid ++ back)) ≡ map number front ++ (map number mid ++ map number back)
numbers_around front mid back =
    map-append number front (mid ++ back) ∙ ap (λ l. map number front ++ l) (map-append number mid back)

-- ---- what slots list

-- what a slot listed before, and then
abbrev pub had_in : DeskSeen → SlotWrite → List Listed
had_in desk w = entries_or_none (listed_at w.page w.slot (body_before w) (slot_before desk w))

abbrev pub has_in : DeskSeen → SlotWrite → List Listed
has_in desk w = entries_or_none (listed_at w.page w.slot (body_after w) (slot_after desk w))

-- no entry of the directory but that of this number has this name
abbrev pub IsFreeElse : SlotWrite → ℕ → List ℕ → Type 0
IsFreeElse w n name = (l : Listed) → In l w.file.entries → (l.entry.ino ≡ n → ⊥) → l.entry.name ≡ name → ⊥

-- By these slots the file of a number is listed anew: they listed nothing but it, of names that no other file has there, and nothing else in hand lists it.
pub record IsRelisting (desk : DeskSeen) (h : InHand) (writes : List SlotWrite) (n : ℕ) (now : Option Naming) : Type 0 where
  pub before : (w : SlotWrite) → In w writes → listed_at w.page w.slot (body_before w) (slot_before desk w) ≡ Ok (had_in desk w)
  pub after : (w : SlotWrite) → In w writes → listed_at w.page w.slot (body_after w) (slot_after desk w) ≡ Ok (has_in desk w)
  pub number : (e : Naming) → now ≡ Some e → e.listed.entry.ino ≡ n
  pub had : (w : SlotWrite) (l : Listed) → In w writes → In l (had_in desk w) → l.entry.ino ≡ n
  pub has : (w : SlotWrite) (l : Listed) → In w writes → In l (has_in desk w) → now ≡ Some (record { directory = w.directory.ino; listed = l })
  pub come : (e : Naming) → now ≡ Some e → (w : SlotWrite) × In w writes × (w.directory.ino ≡ e.directory) × In e.listed (has_in desk w)
  pub free : (w : SlotWrite) (l : Listed) → In w writes → In l (has_in desk w) → IsFreeElse w n l.entry.name
  pub was : (naming_of (case_as_stands desk h) n ≡ None) ⊎ ((w : SlotWrite) × In w writes × (l : Listed) × In l (had_in desk w))

module _ (desk : DeskSeen) (h h' : InHand) (writes : List SlotWrite) (o : IsInOrder desk h) (u : AreSlotWrites desk h h' writes) where
  abbrev pub b : Bundle
  b = bundle_of h.parcel

  abbrev pub b2 : Bundle
  b2 = bundle_then h h'

  abbrev pub lent : List Held
  lent = map held_by h.parcel.holds

  abbrev directories : List ℕ
  directories = map (λ (w : SlotWrite). w.directory.ino) writes

  -- ---- the written files are the same

  bare_writes : map bare b2.writes ≡ map bare b.writes
  bare_writes = search (arith, map-map, stands)

  bare_sorted : map bare (sorted_by (λ (w : Written). w.ino) b2.writes) ≡ map bare (sorted_by (λ (w : Written). w.ino) b.writes)
  bare_sorted =
      sym (sorted-map (λ (w : Written). w.ino) (λ (w : Written). w.ino) bare (λ w. refl) b2.writes)
      ∙ ap (sorted_by (λ (w : Written). w.ino)) bare_writes
      ∙ sorted-map (λ (w : Written). w.ino) (λ (w : Written). w.ino) bare (λ w. refl) b.writes

  numbers_same : map (λ (w : Written). w.ino) b2.writes ≡ map (λ (w : Written). w.ino) b.writes
  numbers_same =
      sym (map-map (λ (w : Written). w.ino) bare b2.writes)
      ∙ ap (map (λ (w : Written). w.ino)) bare_writes
      ∙ map-map (λ (w : Written). w.ino) bare b.writes

  files_new : are_new [] (map (λ (w : Written). w.ino) b.writes) ≡ true
  files_new = hand_files_once desk h o

  written_same : (k : ℕ) → is_written b2 k ≡ is_written b k
  written_same k = written_among b2.writes k ∙ ap (is_among k) numbers_same ∙ sym (written_among b.writes k)

  one_write : (w x : SlotWrite) → In w writes → In x writes → w.directory.ino ≡ x.directory.ino → w ≡ x
  one_write w x i j e = one_keyed (λ (y : SlotWrite). y.directory.ino) writes w x u.once i j e

  module _ (rows : List (Option Row)) where
    abbrev pub c : Case
    c = case_with desk.sizes desk.creds rows b lent

    abbrev pub c2 : Case
    c2 = case_with desk.sizes desk.creds rows b2 lent

    starts_same : written_files c2 ≡ written_files c
    starts_same =
        map-each (written_met c2) (λ w. written_met c (bare w)) (sorted_by (λ (w : Written). w.ino) b2.writes) (λ w i. sym (bare_at w (row_in rows w.ino)))
        ∙ sym (map-map (written_met c) bare (sorted_by (λ (w : Written). w.ino) b2.writes))
        ∙ ap (map (written_met c)) bare_sorted
        ∙ map-map (written_met c) bare (sorted_by (λ (w : Written). w.ino) b.writes)
        ∙ map-each (λ w. written_met c (bare w)) (written_met c) (sorted_by (λ (w : Written). w.ino) b.writes) (λ w i. bare_at w (row_in rows w.ino))

    module _ (nodes nodes' : Nodes) (v : IsShown c nodes nodes') where
      -- ---- directories that are edited

      abbrev core : Core
      core = bundle_core c

      abbrev core2 : Core
      core2 = bundle_core c2

      edited : (w : SlotWrite) → In w writes → (z : Met) × In z (judged_files c) × IsAlike w.directory z
      edited w i = judged_also desk.sizes desk.creds [] rows b lent w.directory (u.each w i).judged

      edited_read : (w : SlotWrite) (i : In w writes) → file_within core (edited w i).0 ≡ Ok w.file
      edited_read w i = (edited w i).2.reads core ∙ (u.each w i).reads

      pages_read : (y : Met) (f : FileRead) (p : ℕ) → file_within core y ≡ Ok f → In p (pages_listed f) → In p (pages_within c y)
      pages_read y f p e i = subst (λ r. In p (pages_in r)) (sym e) i

      -- a judged file that lists the page of a slot is the directory
      page_is : (y : Met) (f : FileRead) (p : ℕ) (w : SlotWrite) → In y (judged_files c) → file_within core y ≡ Ok f → In p (pages_listed f) → In w writes → p ≡ w.page → y.ino ≡ w.directory.ino
      page_is y f p w j e i k same =
          let z = edited w k in
          let there : In p (pages_within c z.0) = pages_read z.0 w.file p (edited_read w k) (In-right p w.file.chain.index w.file.chain.blocks (subst (λ q. In q w.file.chain.blocks) (sym same) (u.each w k).block)) in
          ap (λ (x : Met). x.ino) (one_of (pages_within c) (judged_files c) y z.0 p (owned v).pages_once j z.1 (pages_read y f p e i) there) ∙ z.2.ino

      -- any other lists the pages of before
      pages_else : (y : Met) (f : FileRead) → In y (judged_files c) → file_within core y ≡ Ok f → (In y.ino directories → ⊥) → (p : ℕ) → In p (pages_listed f) → page_of core2 p ≡ page_of core p
      pages_else y f j e out p i = search (arith, map-In, page_is, In-map)

      pub reads_else : (y : Met) (f : FileRead) → In y (judged_files c) → file_within core y ≡ Ok f → (In y.ino directories → ⊥) → file_within core2 y ≡ Ok f
      reads_else y f j e out = file_as_before core core2.pages y f e (pages_else y f j e out)

      pages_once : (y : Met) (f : FileRead) → In y (judged_files c) → file_within core y ≡ Ok f → are_new [] (pages_listed f) ≡ true
      pages_once y f j e = sym (ap (λ r. are_new [] (pages_in r)) e) ∙ each_new (pages_within c) (judged_files c) y (owned v).pages_once j

      edited_is : (y : Met) (w : SlotWrite) (i : In w writes) → In y (judged_files c) → y.ino ≡ w.directory.ino → y ≡ (edited w i).0
      edited_is y w i j e =
          one_keyed (λ (x : Met). x.ino) (judged_files c) y (edited w i).0 (judged_once c files_new) j (edited w i).1 (e ∙ sym (edited w i).2.ino)

      rewritten : (y : Met) (w : SlotWrite) → In w writes → In y (judged_files c) → y.ino ≡ w.directory.ino → IsRewritten core core2.pages y w.file w.page w.slot w.old w.new
      rewritten y w i j e =
          let s = u.each w i in
          let is : y ≡ (edited w i).0 = edited_is y w i j e in
          let reads : file_within core y ≡ Ok w.file = ap (file_within core) is ∙ edited_read w i in
          let once = pages_once y w.file j reads in
          let parts = and_parts (are_new [] w.file.chain.index) (are_new w.file.chain.index w.file.chain.blocks) (sym (are_new-append [] w.file.chain.index w.file.chain.blocks) ∙ once) in
          let other : (p : ℕ) → In p (pages_listed w.file) → (p ≡ w.page → ⊥) → page_of core2 p ≡ page_of core p = search (arith, map-In, one_write, page_is) in
          record {
            kind = ap (λ (x : Met). x.kind) is ∙ (edited w i).2.kind ∙ s.kind;
            reads = reads;
            once = are_new-fewer [] w.file.chain.index w.file.chain.blocks (λ n k. absurd k) parts.1;
            block = s.block;
            slot = s.slot;
            before = s.before;
            whole = s.whole;
            fills = s.fills;
            after = s.after;
            index = λ p k. other p (In-left p w.file.chain.index w.file.chain.blocks k) (λ t. are_new-before w.page w.file.chain.index w.file.chain.blocks parts.1 s.block (subst (λ q. In q w.file.chain.index) t k));
            else = λ p k d. other p (In-right p w.file.chain.index w.file.chain.blocks k) d;
          }

      around : (y : Met) (w : SlotWrite) (i : In w writes) (j : In y (judged_files c)) (e : y.ino ≡ w.directory.ino) → SlotAround core core2.pages y w.file w.page w.slot w.old w.new
      around y w i j e = slot_around core core2.pages y w.file w.page w.slot w.old w.new (rewritten y w i j e)

      -- ---- entries

      entries_once : (y : Met) (f : FileRead) → In y (judged_files c) → file_within core y ≡ Ok f → are_new [] (map number f.entries) ≡ true
      entries_once y f j e =
          ap (are_new []) (sym (map-map (λ (m : Met). m.ino) (met_in plain y.ino) f.entries))
          ∙ ap (λ r. are_new [] (numbers (children_in plain y.ino r))) (sym e)
          ∙ each_new (λ m. numbers (entries_in c m)) (judged_files c) y (ap (are_new []) (sym (numbers-flat (entries_in c) (judged_files c))) ∙ (owned v).entries_once) j

      module _ (n : ℕ) (now : Option Naming) (k : IsRelisting desk h writes n now) where
        had_is : (y : Met) (w : SlotWrite) (i : In w writes) (j : In y (judged_files c)) (e : y.ino ≡ w.directory.ino) → (around y w i j e).had ≡ had_in desk w
        had_is y w i j e =
            Ok-one (listed_at w.page w.slot (body_before w) (slot_before desk w)) (around y w i j e).had (had_in desk w) (around y w i j e).before (k.before w i)

        -- what a slot listed before its directory reads
        had_read : (w : SlotWrite) (l : Listed) → In w writes → In l (had_in desk w) → In l w.file.entries
        had_read w l i j =
            let z = edited w i in
            let a = around z.0 w i z.1 z.2.ino in
            let had : In l a.had = subst (λ s. In l s) (sym (had_is z.0 w i z.1 z.2.ino)) j in
            subst (λ s. In l s) (sym a.were) (In-right l a.front (a.had ++ a.back) (In-left l a.had a.back had))

        -- an entry of the number stands in one of the slots
        listed_in : (y : Met) (f : FileRead) (l : Listed) → In y (judged_files c) → file_within core y ≡ Ok f → In l f.entries → l.entry.ino ≡ n → (w : SlotWrite) × In w writes × (y.ino ≡ w.directory.ino) × In l (had_in desk w)
        listed_in y f l j e i same =
            let named : naming_of c n ≡ Some (record { directory = y.ino; listed = l }) = ap (naming_of c) (sym same) ∙ entry_named v y f l j e i in
            elim k.was [
              | inl none ↦
                  let wrong : None ≡ Some (record { directory = y.ino; listed = l }) = sym none ∙ named_alike desk.sizes desk.creds rows [] b lent n ∙ named in absurd (cc wrong)
              | inr q ↦
                  let w : SlotWrite = q.0 in
                  let x : Listed = q.2 in
                  let z = edited w q.1 in
                  let named' : naming_of c n ≡ Some (record { directory = z.0.ino; listed = x }) = ap (naming_of c) (sym (k.had w x q.1 q.3)) ∙ entry_named v z.0 w.file x z.1 (edited_read w q.1) (had_read w x q.1 q.3) in
                  let one = some_one (naming_of c n) (record { directory = y.ino; listed = l }) (record { directory = z.0.ino; listed = x }) named named' in
                  (w, q.1, ap (λ (s : Naming). s.directory) one ∙ z.2.ino, subst (λ s. In s (had_in desk w)) (sym (ap (λ (s : Naming). s.listed) one)) q.3)
            ]

        -- a directory that is edited
        rereads_edited : (y : Met) (w : SlotWrite) (i : In w writes) (j : In y (judged_files c)) (e : y.ino ≡ w.directory.ino) → Rereads desk.sizes desk.creds rows b b2.writes b2.pages lent n now y w.file
        rereads_edited y w i j e =
            let a = around y w i j e in
            let r = rewritten y w i j e in
            let has : List Listed = has_in desk w in
            let had_same : a.had ≡ had_in desk w = had_is y w i j e in
            let once : are_new [] (map number a.front ++ (map number a.had ++ map number a.back)) ≡ true =
            sym (ap (are_new []) (ap (map number) a.were ∙ numbers_around a.front a.had a.back)) ∙ entries_once y w.file j r.reads in
            let beside : (l : Listed) → In l (a.front ++ a.back) → In l w.file.entries =
            λ l t. subst (λ s. In l s) (sym a.were) (elim (In-cases l a.front a.back t) [
              | inl q ↦ In-left l a.front (a.had ++ a.back) q
              | inr q ↦ In-right l a.front (a.had ++ a.back) (In-right l a.had a.back q)
            ]) in
            let other : (l : Listed) → In l (a.front ++ a.back) → l.entry.ino ≡ n → ⊥ =
            λ l t same.
            let q = listed_in y w.file l j r.reads (beside l t) same in
            let one : q.0 ≡ w = one_write q.0 w q.1 i (sym q.2 ∙ e) in
            let had : In l a.had = subst (λ s. In l s) (sym had_same) (subst (λ (z : SlotWrite). In l (had_in desk z)) one q.3) in
            new_apart (map number a.front) (map number a.had) (map number a.back) l.entry.ino once (In-map number l a.had had)
            (subst (λ s. In l.entry.ino s) (map-append number a.front a.back) (In-map number l (a.front ++ a.back) t)) in
            let here : (l : Listed) → In l has → now ≡ Some (record { directory = y.ino; listed = l }) =
            λ l t. k.has w l i t ∙ ap (λ d. Some (record { directory = d; listed = l })) (sym e) in
            let then : FileRead = record w.file { entries = a.front ++ (has ++ a.back) } in
            let came : (l : Listed) → In l has → l.entry.ino ≡ n = λ l t. k.number (record { directory = y.ino; listed = l }) (here l t) in
            record {
              then = then;
              read = a.put has (k.after w i) (λ l x t q same. k.free w l i t x (beside x q) (other x q) same);
              body = refl;
              chain = refl;
              from = λ l t. elim (In-cases l a.front (has ++ a.back) t) [
                | inl q ↦ let s = In-left l a.front a.back q in inl (beside l s, other l s)
                | inr p ↦ elim (In-cases l has a.back p) [
                  | inl q ↦ inr (here l q)
                  | inr q ↦ let s = In-right l a.front a.back q in inl (beside l s, other l s)
                ]
              ];
              to = λ l t d. elim (In-cases l a.front (a.had ++ a.back) (subst (λ s. In l s) a.were t)) [
                | inl q ↦ In-left l a.front (has ++ a.back) q
                | inr p ↦ elim (In-cases l a.had a.back p) [
                  | inl q ↦ absurd (d (k.had w l i (subst (λ s. In l s) had_same q)))
                  | inr q ↦ In-right l a.front (has ++ a.back) (In-right l has a.back q)
                ]
              ];
              come = λ l t.
                  let q = k.come (record { directory = y.ino; listed = l }) t in
                  let one : q.0 ≡ w = one_write q.0 w q.1 i (q.2 ∙ e) in
                  In-right l a.front (has ++ a.back) (In-left l has a.back (subst (λ (z : SlotWrite). In l (has_in desk z)) one q.3));
              once =
                  ap (are_new []) (numbers_around a.front has a.back)
                  ∙ new_replaced (map number a.front) (map number a.had) (map number has) (map number a.back) once
                  (single has (listed_one w.page w.slot (body_after w) (slot_after desk w) has (k.after w i)))
                  (λ m p q.
                  let x = map-In number m has p in
                  let z = map-In number m (a.front ++ a.back) (subst (λ s. In m s) (sym (map-append number a.front a.back)) q) in
                  other z.0 z.1 (sym z.2 ∙ x.2 ∙ came x.0 x.1));
              bytes =
                  ap (λ (d : Kind). bytes_read core2 d (Ok then)) r.kind
                  ∙ sym (ap (λ (d : Kind). bytes_read core d (Ok w.file)) r.kind);
            }
          where
            single : (ls : List Listed) → AtMostOne ls → are_new [] (map number ls) ≡ true
            single ls (inl none) = ap (λ s. are_new [] (map number s)) none
            single ls (inr one) = ap (λ s. are_new [] (map number s)) one.1

        -- any other file
        rereads_else : (y : Met) (f : FileRead) → In y (judged_files c) → file_within core y ≡ Ok f → (In y.ino directories → ⊥) → Rereads desk.sizes desk.creds rows b b2.writes b2.pages lent n now y f
        rereads_else y f j e out =
            record {
              then = f;
              read = reads_else y f j e out;
              body = refl;
              chain = refl;
              from = λ l t. inl (
                t,
                λ same.
                    let q = listed_in y f l j e t same in
                    out (subst (λ s. In s directories) (sym q.2) (In-map (λ (x : SlotWrite). x.directory.ino) q.0 writes q.1)),
              );
              to = λ l t d. t;
              come = λ l t.
                  let q = k.come (record { directory = y.ino; listed = l }) t in
                  absurd (out (subst (λ s. In s directories) q.2 (In-map (λ (x : SlotWrite). x.directory.ino) q.0 writes q.1)));
              once = entries_once y f j e;
              bytes = by (is_directory y.kind);
            }
          where
            by : (t : Bool) → cond t None (Some (take f.body.size (pages_bytes core2 f.chain.blocks))) ≡ cond t None (Some (take f.body.size (pages_bytes core f.chain.blocks)))
            by true = refl
            by false =
                ap (λ l. Some (take f.body.size l))
                (bytes_as_before core core2.pages f.chain.blocks (λ p i. pages_else y f j e out p (In-right p f.chain.index f.chain.blocks i)))

        pub rereads : (y : Met) (f : FileRead) → In y (judged_files c) → file_within core y ≡ Ok f → Rereads desk.sizes desk.creds rows b b2.writes b2.pages lent n now y f
        rereads y f j e =
            elim (cases_Bool (is_among y.ino directories)) [
              | inl t ↦
                  let w = map-In (λ (x : SlotWrite). x.directory.ino) y.ino writes (is_among-In y.ino directories t) in
                  let same : w.0.file ≡ f = Ok-one (file_within core y) w.0.file f (rewritten y w.0 w.1 j w.2).reads e in
                  subst (λ g. Rereads desk.sizes desk.creds rows b b2.writes b2.pages lent n now y g) same (rereads_edited y w.0 w.1 j w.2)
              | inr t ↦ rereads_else y f j e (λ i. both_ways (is_among y.ino directories) t (In-is_among y.ino directories i))
            ]

        pub lister : (e : Naming) → now ≡ Some e → (y : Met) × In y (judged_files c) × (y.ino ≡ e.directory)
        lister e t =
            let q = k.come e t in
            let z = edited q.0 q.1 in (z.0, z.1, z.2.ino ∙ q.2)

        -- what a slot listed before is an entry in hand, that names the number
        had_entry : (w : SlotWrite) (l : Listed) (i : In w writes) → In l (had_in desk w) → In (met_in plain w.directory.ino l) (entries_in c (edited w i).0)
        had_entry w l i j = search (arith, edited, edited_read, In-map, had_read)

        pub had_met : (w : SlotWrite) (l : Listed) → In w writes → In l (had_in desk w) → In (met_in plain w.directory.ino l) (judged_entries c) × (naming_of c n ≡ Some (record { directory = w.directory.ino; listed = l }))
        had_met w l i j =
            let z = edited w i in (
              In-flat (entries_in c) z.0 (met_in plain w.directory.ino l) (judged_files c) z.1 (had_entry w l i j),
              ap (naming_of c) (sym (k.had w l i j)) ∙ entry_named v z.0 w.file l z.1 (edited_read w i) (had_read w l i j) ∙ ap (λ d. Some (record { directory = d; listed = l })) z.2.ino,
            )

        -- and a file that is judged, if it was made
        pub had_judged : (w : SlotWrite) (l : Listed) → In w writes → In l (had_in desk w) → In n b.numbers → In (met_in plain w.directory.ino l) (judged_files c)
        had_judged w l i j new =
            closed_before v (edited w i).0 (met_in plain w.directory.ino l) (edited w i).1 (had_entry w l i j) (subst (λ q. In q b.numbers) (sym (k.had w l i j)) new)

        -- what is to be known of the entry and of the nodes
        pub record IsSuited (after : Nodes) : Type 0 where
          pub file : (e : Naming) → now ≡ Some e → In n b.numbers
              → IsTaken desk.sizes desk.creds rows b b2.writes b2.pages lent n now e
              ⊎ IsBare desk.sizes desk.creds rows b b2.writes b2.pages lent n now e
          pub grammar : (e : Naming) → now ≡ Some e → entry_in_grammar c (met_at e) ≡ true
          pub own : (e : Naming) → now ≡ Some e → entry_is_own c (met_at e) ≡ true
          pub rights : (e : Naming) → now ≡ Some e → entry_keeps_rights c (met_at e) ≡ true
          pub here :
              node_at after n
              ≡ option_map (judged_data c n)
              (node_left c n now (node_at nodes n))
          pub there : (m : ℕ) → (m ≡ n → ⊥) → node_at after m ≡ node_at nodes' m
          pub none : now ≡ None → node_at after n ≡ None
          pub tree : IsTree after

        pub anew : (after : Nodes) → IsSuited after → IsNamedAnew desk.sizes desk.creds rows b b2.writes b2.pages lent n now nodes nodes' after
        anew after s = search (arith, starts_same, numbers_same, written_same, rereads, lister)

  -- ---- what is shown

  pub view : (nodes nodes' : Nodes) (rows : List (Option Row)) → MayShow desk h h' nodes nodes' rows → IsShown (c rows) nodes nodes'
  view nodes nodes' rows may =
      seen desk h h' nodes nodes' rows (record { order = o; more = possible_before desk h h' u.holds u.inodes u.lent u.back; shows = may })

  module _ (n : ℕ) (now : Option Naming) (k : IsRelisting desk h writes n now) where
    -- where the entry and the nodes are so, what is in hand becomes this
    pub becomes : (change : Nodes → Nodes)
        → ((nodes nodes' : Nodes) (rows : List (Option Row)) (may : MayShow desk h h' nodes nodes' rows) → IsTree (change nodes') → IsSuited rows nodes nodes' (view nodes nodes' rows may) n now k (change nodes'))
        → KeepsTree desk h h' change → Becomes desk h h' change
    becomes change suits keeps = record {
      more = possible_before desk h h' u.holds u.inodes u.lent u.back;
      shows = λ nodes nodes' rows may.
          let v = view nodes nodes' rows may in
          subst (λ (x : Case). Shows x nodes (change nodes')) (sym (case_is desk h h' u.holds u.inodes rows))
          (shown desk.sizes desk.creds rows b b2.writes b2.pages lent n now nodes nodes' (change nodes') v
          (anew rows nodes nodes' v n now k (change nodes') (suits nodes nodes' rows may (keeps nodes nodes' rows may))));
      tree = keeps;
      order = order_stays desk h h' u.holds u.inodes u.lent u.back numbers_same u.pages o;
    }

    module _ (nodes nodes' after : Nodes) (rows : List (Option Row)) (v : IsShown (c rows) nodes nodes')
        (g : IsNamedAnew desk.sizes desk.creds rows b b2.writes b2.pages lent n now nodes nodes' after) where
      -- ---- what is judged then

      abbrev IsOld : Met → Type 0
      IsOld x = Old desk.sizes desk.creds rows b b2.writes b2.pages lent n now nodes nodes' after v g x

      abbrev IsNew : Met → Type 0
      IsNew x = New desk.sizes desk.creds rows b b2.writes b2.pages lent n now nodes nodes' after v g x

      to_listed : (q : Option Naming) (x : Met) (e : Naming) → q ≡ Some e → x ≡ met_at e → IsListedBy q x
      to_listed None x e t is = absurd (let wrong : None ≡ Some e = t in cc wrong)
      to_listed (Some f) x e t is = let same : f ≡ e = (let s : Some f ≡ Some e = t in cc s) in is ∙ ap met_at (sym same)

      from_listed : (q : Option Naming) (x : Met) → IsListedBy q x → (e : Naming) × (q ≡ Some e) × (x ≡ met_at e)
      from_listed None x i = absurd i
      from_listed (Some e) x i = (e, refl, i)

      -- a file that is new is judged whatever the rows say
      new_stands : (one two : List (Option Row)) (x : Met) → In x (judged_files (c one)) → In x.ino b.numbers → In x (judged_files (c two))
      new_stands one two x i new = judged_made desk.sizes desk.creds one two b lent x i (λ w. written_live v x.ino w new)

      new_stands_then : (one two : List (Option Row)) (x : Met) → In x (judged_files (c2 one)) → In x.ino b.numbers → In x (judged_files (c2 two))
      new_stands_then one two x i new = judged_made desk.sizes desk.creds one two b2 lent x i (λ w. written_live v x.ino (subst (λ l. In x.ino l) numbers_same w) new)

      -- a file is new, or it is one with which the walk begins
      new_or_start : (x : Met) (cs : Case) → cs.bundle.numbers ≡ b.numbers → In x (judged_files cs) → In x.ino b.numbers ⊎ In x (written_files cs)
      unfolding judged_files
      new_or_start x cs same i =
          elim (fronts_listed (new_entries cs) (written_files cs) cs.inodes x i) [
            | inl start ↦ inr start
            | inr kid ↦ let q = flat_map-In (new_entries cs) x _ kid in inl (subst (λ l. In x.ino l) same (new_entry cs q.0 x q.2).1)
          ]

      start_old : (x : Met) → In x (written_files (c [])) → In x.ino b.numbers → ⊥
      start_old x i new = written_live v x.ino (start_number (c []) x.ino (In-map (λ (m : Met). m.ino) x (written_files (c [])) i)) new

      judged_then : (x : Met) → In x (judged_files (c2 [])) → (In x (judged_files (c [])) × (In n b.numbers → x.ino ≡ n → ⊥)) ⊎ (In n b.numbers × IsListedBy now x)
      judged_then x i =
          elim (new_or_start x (c2 []) refl i) [
            | inr start ↦
                let s : In x (written_files (c [])) = subst (λ l. In x l) (starts_same []) start in
                inl (start_judged (c []) x s, λ new e. start_old x s (subst (λ z. In z b.numbers) (sym e) new))
            | inl new ↦
                elim (judged_from desk.sizes desk.creds rows b b2.writes b2.pages lent n now nodes nodes' after v g x (new_stands_then [] rows x i new)) [
                  | inl q ↦ inr (q.2, to_listed now x q.0 q.1 q.3)
                  | inr q ↦ inl (new_stands rows [] x q.0 new, q.1)
                ]
          ]

      judged_free : (x : Met) → IsNew x ⊎ IsOld x → In x.ino b.numbers → In x (judged_files (c2 []))
      judged_free x j new =
          new_stands_then rows [] x (judged_to desk.sizes desk.creds rows b b2.writes b2.pages lent n now nodes nodes' after v g x j) new

      then_judged : (x : Met) → (In x (judged_files (c [])) × (In n b.numbers → x.ino ≡ n → ⊥)) ⊎ (In n b.numbers × IsListedBy now x) → In x (judged_files (c2 []))
      then_judged x (inl old) =
          elim (new_or_start x (c []) refl old.0) [
            | inr start ↦ start_judged (c2 []) x (subst (λ l. In x l) (sym (starts_same [])) start)
            | inl new ↦ judged_free x (inr (new_stands [] rows x old.0 new, old.1)) new
          ]
      then_judged x (inr come) =
          let q = from_listed now x come.1 in
          judged_free x (inl (q.0, q.1, come.0, q.2)) (subst (λ z. In z b.numbers) (sym (ap (λ (m : Met). m.ino) q.2 ∙ k.number q.0 q.1)) come.0)

      -- ---- what it reads

      others : (x : Met) (f : FileRead) → In x (judged_files (c [])) → file_within (bundle_core (c [])) x ≡ Ok f → (In x.ino directories → ⊥) → file_within (bundle_core (c2 [])) x ≡ Ok f
      others x f i e out =
          let z = judged_also desk.sizes desk.creds [] rows b lent x i in
          sym (z.2.reads (bundle_core (c2 [])))
          ∙ reads_else rows nodes nodes' v z.0 f z.1 (z.2.reads (bundle_core (c [])) ∙ e) (λ j. out (subst (λ q. In q directories) z.2.ino j))

      edited_then : (w : SlotWrite) → In w writes
          → (f : FileRead) × (file_within (bundle_core (c2 [])) w.directory ≡ Ok f) × (f.body ≡ w.file.body) × (f.chain ≡ w.file.chain)
          × ((l : Listed) → In l f.entries ↔ ((In l w.file.entries × (l.entry.ino ≡ n → ⊥)) ⊎ (now ≡ Some (record { directory = w.directory.ino; listed = l }))))
      edited_then w i =
          let z = edited rows nodes nodes' v w i in
          let r = rereads rows nodes nodes' v n now k z.0 w.file z.1 (edited_read rows nodes nodes' v w i) in (
            r.then,
            sym (z.2.reads (bundle_core (c2 []))) ∙ r.read,
            r.body,
            r.chain,
            λ l. (
              λ j. elim (r.from l j) [ inl old ↦ inl old | inr come ↦ inr (come ∙ ap (λ d. Some (record { directory = d; listed = l })) z.2.ino) ],
              λ j. elim j [ inl old ↦ r.to l old.0 old.1 | inr come ↦ r.come l (come ∙ ap (λ d. Some (record { directory = d; listed = l })) (sym z.2.ino)) ],
            ),
          )

      made_then : (x : Met) → In n b.numbers → IsListedBy now x
          → ((y : Met) × In y (judged_files (c [])) × (y.ino ≡ n) × (file_within (bundle_core (c2 [])) x ≡ file_within (bundle_core (c2 [])) y))
          ⊎ ((f : FileRead) × (file_within (bundle_core (c2 [])) x ≡ Ok f) × IsEmptyFile f)
      made_then x new i =
          let q = from_listed now x i in
          elim (g.file q.0 q.1 new) [
            | inl t ↦
                let y = judged_also desk.sizes desk.creds rows [] b lent t.was t.judged in
                inl (y.0, y.1, y.2.ino ∙ t.number, ap (file_within (bundle_core (c2 []))) q.2 ∙ t.reads ∙ sym (y.2.reads (bundle_core (c2 []))))
            | inr t ↦ inr (t.file, ap (file_within (bundle_core (c2 []))) q.2 ∙ t.read, t.empty)
          ]

      pages_then : (page : ℕ) → In page (listed_in_hand desk h') → In page (listed_in_hand desk h)
      pages_then page i =
          let j : In page (judged_pages (case_in_hand desk rows h')) = subst (λ l. In page l) (stands desk h' rows) i in
          let q : In page (judged_pages (c2 rows)) = subst (λ (x : Case). In page (judged_pages x)) (case_is desk h h' u.holds u.inodes rows) j in
          subst (λ l. In page l) (sym (stands desk h rows)) (listed_before desk.sizes desk.creds rows b b2.writes b2.pages lent n now nodes nodes' after v g page q)

      -- ---- which entry names a number

      named_then : (m : ℕ) → naming_of (case_in_hand desk [] h') m ≡ naming_of (c2 rows) m
      named_then m = ap (λ (x : Case). naming_of x m) (case_is desk h h' u.holds u.inodes []) ∙ named_alike desk.sizes desk.creds rows [] b2 lent m

      pub after_is : IsAfter desk h h' writes n now
      after_is = record {
        named = named_then n ∙ named_here desk.sizes desk.creds rows b b2.writes b2.pages lent n now nodes nodes' after v g;
        named_else = λ m d.
            named_then m ∙ named_else desk.sizes desk.creds rows b b2.writes b2.pages lent n now nodes nodes' after v g m d
            ∙ sym (named_alike desk.sizes desk.creds rows [] b lent m);
        judged = λ x. (
          λ i. judged_then x (subst (λ (z : Case). In x (judged_files z)) (case_is desk h h' u.holds u.inodes []) i),
          λ i. subst (λ (z : Case). In x (judged_files z)) (sym (case_is desk h h' u.holds u.inodes [])) (then_judged x i),
        );
        others = others;
        edited = edited_then;
        made = λ x i. made_then x i.0 i.1;
        pages = pages_then;
      }
