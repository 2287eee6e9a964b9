-- What is judged after slots were written: the files that the session made, and the rights that the entries show.
use Rattle.trio_edit_laws.proofs.Words.{◌∙◌, ◌≡◌, ArePossible, AreSlotWrites, Case, DeskSeen, FileRead, HasRights, In, InoParts, IsJudgedMade, IsView, List, Listed, MadeFile, MayEdit, Met, Naming, Nodes, Ok, Option, Row, SessionSeen, SlotWrite, Some, among_cases, ap, arith, case_as_stands, cases_eq, file_in, hand_files_once, in_hand, inl, ino_numbers, inr, is_some, judged_files, judged_once, made_body, made_file, made_met, map, map-In, node_at, rights_in, same_met, subst, sym, true, ℕ}
use Rattle.trio_edit_laws.specs.session.SlotEdits.{IsAfter, IsMadeBy}
use Rattle.trio_edit_laws.proofs.HandStays.{takes_more}
use Rattle.trio_edit_laws.proofs.Whole.{judged_reads, view_then}
use Rattle.trio_edit_laws.proofs.directories.Stays.{KeepsJudged, WritesDirs, hand_stays}

-- What becomes of the file of one number, by these slots that are written, as long as nodes are possible. A file that was made is listed then
-- where the session has it, and any other has the rights that its slot shows.
pub record IsListedThen (desk : DeskSeen) (s s' : SessionSeen) (n' : ℕ) (nodes : Nodes) (now : Option Naming) : Type 0 where
  pub mine : (x : MadeFile) → In x s'.made → x.ino ≡ n' → (directory : ℕ) × IsMadeBy (in_hand s) n' now (made_met s' directory x)
  pub made : (x : Met) → IsMadeBy (in_hand s) n' now x → is_some (made_file s' x.ino) ≡ true
  pub rights :
      (e : Naming) → now ≡ Some e → (In e.listed.entry.ino (ino_numbers s.parcel.inodes) → ⊥)
      → HasRights (rights_in e.listed.entry.kind e.listed.body) (node_at nodes e.listed.entry.ino)

-- the slots that are written then, and what is judged after them
pub record Rewrites (desk : DeskSeen) (s s' : SessionSeen) (n' : ℕ) (nodes : Nodes) : Type 0 where
  pub writes : List SlotWrite
  pub now : Option Naming
  pub are : AreSlotWrites desk (in_hand s) (in_hand s') writes
  pub after : IsAfter desk (in_hand s) (in_hand s') writes n' now
  pub listed : IsListedThen desk s s' n' nodes now

-- the other files that were made are as they were
pub record OthersStay (s s' : SessionSeen) (n' : ℕ) : Type 0 where
  pub made : (x : MadeFile) → In x s'.made → (x.ino ≡ n' → ⊥) → In x s.made × (made_body s' x ≡ made_body s x)
  pub found : (k : ℕ) → (k ≡ n' → ⊥) → made_file s' k ≡ made_file s k

module _ (desk : DeskSeen) (s s' : SessionSeen) (n : ℕ) (m : MayEdit desk s) (e : WritesDirs s s') (others : OthersStay s s' n)
    (rewrites : (nodes nodes' : Nodes) (rows : List (Option Row)) → IsView desk (in_hand s) (in_hand s') nodes nodes' rows → Rewrites desk s s' n nodes) where
  abbrev c : Case
  c = case_as_stands desk (in_hand s)

  abbrev c' : Case
  c' = case_as_stands desk (in_hand s')

  module _ (nodes : Nodes) (rows : List (Option Row)) (possible : ArePossible desk s'.parcel s'.reads nodes rows) where
    before : ArePossible desk s.parcel s.reads nodes rows
    before = takes_more desk s s' m (hand_stays s s' e) nodes rows possible

    v : (nodes' : Nodes) × IsView desk (in_hand s) (in_hand s') nodes nodes' rows
    v = view_then desk s (in_hand s') nodes rows m (takes_more desk s s' m (hand_stays s s' e)) possible

    r : Rewrites desk s s' n nodes
    r = rewrites nodes v.0 rows v.1

    judged_then : (x : MadeFile) → In x s'.made → IsJudgedMade desk s' x
    judged_then x i = elim (cases_eq x.ino n) [
      | inl same ↦
          let q = r.listed.mine x i same in
          record { directory = q.0; judged = (r.after.judged (made_met s' q.0 x)).1 (inr q.1) }
      | inr differ ↦
          let o = others.made x i differ in
          let j = m.made.judged nodes rows before x o.0 in
          let as_met : List ℕ → Met = λ b. record { ino = x.ino; kind = x.kind; parent = j.directory; page = x.page; slot = x.slot; body = b } in
          record {
            directory = j.directory;
            judged = (r.after.judged (made_met s' j.directory x)).1 (inl (subst (λ b. In (as_met b) (judged_files c)) (sym o.1) j.judged, λ new. differ));
          }
    ]

    only_then : (x : Met) → In x (judged_files (case_as_stands desk (in_hand s'))) → In x.ino (ino_numbers s.parcel.inodes) → is_some (made_file s' x.ino) ≡ true
    only_then x i new = elim ((r.after.judged x).0 i) [
      | inl old ↦
          let differ : x.ino ≡ n → ⊥ = λ same. old.1 (subst (λ k. In k (ino_numbers s.parcel.inodes)) same new) same in
          ap is_some (others.found x.ino differ) ∙ m.made.only nodes rows before x old.0 new
      | inr made ↦ r.listed.made x made
    ]

    -- a file that was judged has entries as before, but for the one that was written
    entry_then : (x : Met) (f : FileRead) (l : Listed) → In x (judged_files (case_as_stands desk (in_hand s))) → file_in (case_as_stands desk (in_hand s')) x ≡ Ok f
        → In l f.entries
        → (In l.entry.ino (ino_numbers s.parcel.inodes) → ⊥) → HasRights (rights_in l.entry.kind l.body) (node_at nodes l.entry.ino)
    entry_then x f l i reads j old = elim (among_cases x.ino (map (λ (w : SlotWrite). w.directory.ino) r.writes)) [
      | inr out ↦
          let was = judged_reads desk (in_hand s) (in_hand s') nodes v.0 rows x v.1 i in
          let both : Ok was.0 ≡ Ok f = sym (r.after.others x was.0 i was.1 out) ∙ reads in
          let same : was.0 ≡ f = cc both in
          m.entries nodes rows x was.0 l before i was.1 (subst (λ (g : FileRead). In l g.entries) (sym same) j) old
      | inl among ↦
          let q = map-In (λ (w : SlotWrite). w.directory.ino) x.ino r.writes among in
          let w : SlotWrite = q.0 in
          let is = r.are.each w q.1 in
          let one : x ≡ w.directory = same_met (judged_files c) x w.directory (judged_once c (hand_files_once desk (in_hand s) m.order)) i is.judged q.2 in
          let g = r.after.edited w q.1 in
          let both : Ok g.0 ≡ Ok f = sym g.1 ∙ ap (file_in c') (sym one) ∙ reads in
          let same : g.0 ≡ f = cc both in
          elim ((g.4 l).0 (subst (λ (z : FileRead). In l z.entries) (sym same) j)) [
            | inl kept ↦ m.entries nodes rows w.directory w.file l before is.judged is.reads kept.0 old
            | inr here ↦ r.listed.rights (record { directory = w.directory.ino; listed = l }) here old
          ]
    ]

    entries_then : (x : Met) (f : FileRead) (l : Listed) → In x (judged_files (case_as_stands desk (in_hand s'))) → file_in (case_as_stands desk (in_hand s')) x ≡ Ok f
        → In l f.entries
        → (In l.entry.ino (ino_numbers s.parcel.inodes) → ⊥) → HasRights (rights_in l.entry.kind l.body) (node_at nodes l.entry.ino)
    entries_then x f l i reads j old = elim ((r.after.judged x).0 i) [
      | inl was ↦ entry_then x f l was.0 reads j old
      | inr made ↦ elim (r.after.made x made) [
        | inl y ↦ entry_then y.0 f l y.1 (sym y.3 ∙ reads) j old
        | inr empty ↦ search arith
      ]
    ]

  pub keeps_judged : KeepsJudged desk s'
  keeps_judged = record {
    judged = judged_then;
    only = λ nodes rows possible x i new. only_then nodes rows possible x i (subst (λ (l : List InoParts). In x.ino (ino_numbers l)) e.touches.inodes new);
    entries = λ nodes rows x f l possible i reads j old.
        entries_then nodes rows possible x f l i reads j (λ new. old (subst (λ (ns : List InoParts). In l.entry.ino (ino_numbers ns)) (sym e.touches.inodes) new));
  }
