-- Where nodes are possible: what a session shows in their place, and that each file that is open is judged, and reads by its chain.
use Rattle.trio_edit_laws.proofs.Words.{◌++◌, ◌∙◌, ◌≡◌, ArePossible, Becomes, Body, Case, Chain, Core, DeskSeen, FileRead, In, In-map, In-right, InHand, IsAmong, IsNamed, IsView, Kind, LentFile, List, Listed, Location, MadeFile, MayEdit, MayShow, Met, Nodes, None, Ok, Option, ReadsBy, Result, Row, SessionSeen, ShowsTrees, Some, TakesMore, [], and_parts, ap, arith, block_count, body_in, body_of, bundle_of, case_as_stands, case_in_hand, chain_in, chain_within, children_in, core_in_hand, entries_in, entry_in_grammar, false≢true, file_in, file_within, flat_map-In, get_or, held_by, in_hand, index_count, inl, inr, is_ok, is_ok-Ok, is_some, judged_entries, judged_files, judged_there, length, list_all, list_all-In, made_body, made_file, made_met, map, map-In, met_in, one_of, open_kind, pages_in, pages_within, plain, row_in, sees_judged, slice_get-In, some_one, start_judged, start_to, subst, sym, within_from, written_in, written_ino_at, written_kind_at, written_met, ℕ}
use Rattle.trio_laws.proofs.judgement.JudgedFacts.{written_body_at}
use Rattle.trio_edit_laws.proofs.session.Chains.{named_chain}
use Rattle.trio_laws.proofs.session.Climbing.{own_parent}
use Rattle.trio_edit_laws.proofs.session.EditedSlots.{entry-stands}
use Rattle.trio_laws.proofs.session.Stands.{Read}
use Rattle.trio_laws.proofs.session.TakenHold.{judged_listed}
use Rattle.trio_edit_laws.proofs.Anew.{body-made, body-written}
use Rattle.trio_edit_laws.proofs.Opens.{OpenMade, OpenWritten, opened}
use Rattle.trio_edit_laws.proofs.session.ListedPages.{listed_are_in_hand}

-- ---- what is shown

-- whatever becomes of what is in hand, the session shows one tree
pub shows_after : (desk : DeskSeen) (s s' : SessionSeen) (change : Nodes → Nodes) → ShowsTrees desk s → Becomes desk (in_hand s) (in_hand s') change → ShowsTrees desk s'
shows_after desk s s' change shows b nodes rows possible =
    let was = shows nodes rows (b.more nodes rows possible) in
    let may : MayShow desk (in_hand s) (in_hand s') nodes was.0 rows = record { possible = possible; tree = was.1.tree; shows = was.1.shows } in
    (change was.0, record { possible = possible; tree = b.tree nodes was.0 rows may; shows = b.shows nodes was.0 rows may })

-- what is possible later is a view of what was in hand
pub view_then : (desk : DeskSeen) (s : SessionSeen) (h' : InHand) (nodes : Nodes) (rows : List (Option Row)) → MayEdit desk s → TakesMore desk (in_hand s) h' → ArePossible desk h'.parcel h'.back nodes rows
    → (nodes' : Nodes) × IsView desk (in_hand s) h' nodes nodes' rows
view_then desk s h' nodes rows m more possible =
    let was = m.shows nodes rows (more nodes rows possible) in
    (was.0, record { order = m.order; more = more; shows = record { possible = possible; tree = was.1.tree; shows = was.1.shows } })

-- each judged file reads whole
pub judged_reads : (desk : DeskSeen) (h h' : InHand) (nodes nodes' : Nodes) (rows : List (Option Row)) (m : Met) → IsView desk h h' nodes nodes' rows → In m (judged_files (case_as_stands desk h))
    → (f : FileRead) × (file_in (case_as_stands desk h) m ≡ Ok f)
judged_reads desk h h' nodes nodes' rows m v i =
    let c : Case = case_in_hand desk rows h in
    let x = judged_there desk.sizes desk.creds rows [] (bundle_of h.parcel) (map held_by h.parcel.holds) m i in
    let ok = is_ok-Ok (file_within (core_in_hand desk h) x.0)
    (list_all-In (λ y. is_ok (file_within (core_in_hand desk h) y)) x.0 (judged_files c) (and_parts (list_all (λ y. is_ok (file_within (core_in_hand desk h) y)) (judged_files c)) (list_all (entry_in_grammar c) (judged_entries c)) v.shows.shows.grammar).0 x.1) in
    (ok.0, ap (λ (z : Read). z.reads) (sym x.2) ∙ ok.1)

-- ---- files that are open

-- it is judged, with its number, kind and body, and one that was made at its slot
pub record OpenJudged (desk : DeskSeen) (s : SessionSeen) (ino' : ℕ) (kind' : Kind) : Type 0 where
  pub met : Met
  pub judged : In met (judged_files (case_as_stands desk (in_hand s)))
  pub number : met.ino ≡ ino'
  pub kind : met.kind ≡ kind'
  pub body : met.body ≡ body_in s ino'
  pub place : (mf : MadeFile) → made_file s ino' ≡ Some mf → (met.page ≡ mf.page) × (met.slot ≡ mf.slot)

-- a written one whatever is possible
pub judged_written : (desk : DeskSeen) (s : SessionSeen) (ino : ℕ) (kind : Kind) → OpenWritten s ino kind → OpenJudged desk s ino kind
judged_written desk s ino kind o =
    let c : Case = case_as_stands desk (in_hand s) in
    let f : LentFile = o.file in
    record {
      met = written_met c (written_in f.stands);
      judged =
          start_judged c (written_met c (written_in f.stands))
          (start_to c (written_in f.stands) (In-map (λ (x : LentFile). written_in x.stands) f s.parcel.writes (slice_get-In s.parcel.writes o.place f o.there)));
      number = written_ino_at (written_in f.stands) (row_in [] f.stands.ino) ∙ o.number;
      kind = written_kind_at (written_in f.stands) (row_in [] f.stands.ino) ∙ o.kind_is;
      body = written_body_at (written_in f.stands) (row_in [] f.stands.ino) ∙ sym (body-written s ino f.stands o.none o.shown);
      place = λ mf e. absurd (let wrong : None ≡ Some mf = sym o.none ∙ e in cc wrong);
    }

-- and one that was made, where it is judged
pub judged_made : (desk : DeskSeen) (s : SessionSeen) (ino : ℕ) (kind : Kind) → (o : OpenMade s ino kind) → (directory : ℕ) → In (made_met s directory o.file) (judged_files (case_as_stands desk (in_hand s)))
    → OpenJudged desk s ino kind
judged_made desk s ino kind o directory i = record {
  met = made_met s directory o.file;
  judged = i;
  number = o.number;
  kind = o.kind_is;
  body = sym (body-made s ino o.file o.found);
  place = λ mf e. (let same : o.file ≡ mf = some_one (made_file s ino) o.file mf o.found e in (ap (λ (x : MadeFile). x.page) same, ap (λ (x : MadeFile). x.slot) same));
}

pub open_judged : (desk : DeskSeen) (s : SessionSeen) (ino : ℕ) (kind : Kind) (nodes : Nodes) (rows : List (Option Row)) → MayEdit desk s → ArePossible desk s.parcel s.reads nodes rows → open_kind s ino ≡ Some kind
    → OpenJudged desk s ino kind
open_judged desk s ino kind nodes rows m possible e =
    elim (opened s ino kind e) [
      | inl o ↦ judged_written desk s ino kind o
      | inr o ↦ (let j = m.made.judged nodes rows possible o.file o.among in judged_made desk s ino kind o j.directory j.judged)
    ]

-- ---- what they read

pub chain_within-named : (core : Core) (index blocks : List ℕ) (b : Body) → IsNamed core index blocks → block_count b.size ≡ length blocks → b.head ≡ get_or index 0 0
    → chain_within core (index_count (block_count b.size)) (block_count b.size) b.head ≡ Ok (record { index = index; blocks = blocks })
chain_within-named core index blocks b named count head = search (arith, named_chain)

-- the body and the index pages of an open file read as its chain
pub chain_reads : (desk : DeskSeen) (s : SessionSeen) (ino : ℕ) (kind : Kind) → (r : ReadsBy desk s ino kind)
    → chain_within (core_in_hand desk (in_hand s)) (index_count (block_count r.body.size)) (block_count r.body.size) r.body.head ≡ Ok (chain_in s ino)
chain_reads desk s ino kind r = chain_within-named (core_in_hand desk (in_hand s)) (chain_in s ino).index (chain_in s ino).blocks r.body r.named r.count r.head

-- so whatever it reads is by its chain
pub reads_by_chain : (desk : DeskSeen) (s : SessionSeen) (ino : ℕ) (kind : Kind) (met : Met) (f : FileRead) → (r : ReadsBy desk s ino kind) → met.kind ≡ kind → met.body ≡ body_in s ino
    → file_in (case_as_stands desk (in_hand s)) met ≡ Ok f → (f.body ≡ r.body) × (f.chain ≡ chain_in s ino)
reads_by_chain desk s ino kind met f r is stands e =
    let core : Core = core_in_hand desk (in_hand s) in
    let w = within_from core met f e in
    let body : f.body ≡ r.body =
    some_one (body_of met.kind desk.sizes.range met.body) f.body r.body w.body (ap (λ k. body_of k desk.sizes.range met.body) is ∙ ap (body_of kind desk.sizes.range) stands ∙ r.is) in
    let same : Ok f.chain ≡ Ok (chain_in s ino) =
    sym w.chain ∙ ap (λ (b : Body). chain_within core (index_count (block_count b.size)) (block_count b.size) b.head) body ∙ chain_reads desk s ino kind r in
    (body, (let t : Ok f.chain ≡ Ok (chain_in s ino) = same in cc t))

-- an open file, as it is judged, reads by its chain
pub record OpenReads (desk : DeskSeen) (s : SessionSeen) (ino' : ℕ) (kind' : Kind) : Type 0 where
  pub is : OpenJudged desk s ino' kind'
  pub file : FileRead
  pub reads : file_in (case_as_stands desk (in_hand s)) is.met ≡ Ok file
  pub chain : file.chain ≡ chain_in s ino'
  pub body : body_of kind' desk.sizes.range (body_in s ino') ≡ Some file.body

pub open_reads : (desk : DeskSeen) (s : SessionSeen) (ino : ℕ) (kind : Kind) (h' : InHand) (nodes nodes' : Nodes) (rows : List (Option Row)) → MayEdit desk s → IsView desk (in_hand s) h' nodes nodes' rows → open_kind s ino ≡ Some kind
    → OpenReads desk s ino kind
open_reads desk s ino kind h' nodes nodes' rows m v e =
    let j = open_judged desk s ino kind nodes rows m (v.more nodes rows v.shows.possible) e in
    let f = judged_reads desk (in_hand s) h' nodes nodes' rows j.met v j.judged in
    let r = m.chains ino kind e in
    let by = reads_by_chain desk s ino kind j.met f.0 r j.kind j.body f.1 in
    record { is = j; file = f.0; reads = f.1; chain = by.1; body = r.is ∙ ap Some (sym by.0) }

-- ---- where a file that was made is listed

-- a directory that is judged lists it, in its slot
pub record MadeListed (desk : DeskSeen) (s : SessionSeen) (mf : MadeFile) : Type 0 where
  pub directory : Met
  pub judged : In directory (judged_files (case_as_stands desk (in_hand s)))
  pub file : FileRead
  pub reads : file_in (case_as_stands desk (in_hand s)) directory ≡ Ok file
  pub listed : Listed
  pub among : In listed file.entries
  pub number : listed.entry.ino ≡ mf.ino
  pub kind : listed.entry.kind ≡ mf.kind
  pub page : listed.page ≡ mf.page
  pub body : listed.body ≡ made_body s mf

child_of : (d : ℕ) (r : Result FileRead Location) (f : FileRead) (x : Met) → r ≡ Ok f → In x (children_in plain d r) → (l : Listed) × In l f.entries × (x ≡ met_in plain d l)
child_of d r f x e i = map-In (met_in plain d) x f.entries (subst (λ q. In x (children_in plain d q)) e i)

pub made_listed : (desk : DeskSeen) (s : SessionSeen) (h' : InHand) (nodes nodes' : Nodes) (rows : List (Option Row)) (mf : MadeFile) → MayEdit desk s → IsView desk (in_hand s) h' nodes nodes' rows → In mf s.made → MadeListed desk s mf
made_listed desk s h' nodes nodes' rows mf m v i =
    let possible = v.more nodes rows v.shows.possible in
    let c : Case = case_as_stands desk (in_hand s) in
    let j = m.made.judged nodes rows possible mf i in
    let a : IsAmong (case_in_hand desk rows (in_hand s)) nodes = m.order.among nodes rows possible in
    elim (judged_listed c (made_met s j.directory mf) j.judged) [
      | inl written ↦
          absurd (false≢true (ap is_some (sym (a.new mf.ino (m.made.numbers mf i))) ∙ a.written mf.ino written))
      | inr entry ↦
          let x = flat_map-In (entries_in c) (made_met s j.directory mf) (judged_files c) entry in
          let f = judged_reads desk (in_hand s) h' nodes nodes' rows x.0 v x.1 in
          let l = child_of x.0.ino (file_in c x.0) f.0 (made_met s j.directory mf) f.1 x.2 in
          record {
            directory = x.0;
            judged = x.1;
            file = f.0;
            reads = f.1;
            listed = l.0;
            among = l.1;
            number = sym (ap (λ (y : Met). y.ino) l.2);
            kind = sym (ap (λ (y : Met). y.kind) l.2);
            page = sym (ap (λ (y : Met). y.page) l.2);
            body = sym (ap (λ (y : Met). y.body) l.2);
          }
    ]

-- its slot is on none of its own blocks
pub own_slot : (desk : DeskSeen) (s : SessionSeen) (ino : ℕ) (kind : Kind) (h' : InHand) (nodes nodes' : Nodes) (rows : List (Option Row)) (mf : MadeFile) → MayEdit desk s → IsView desk (in_hand s) h' nodes nodes' rows
    → open_kind s ino ≡ Some kind → In mf s.made → mf.ino ≡ ino → In mf.page (chain_in s ino).blocks → ⊥
own_slot desk s ino kind h' nodes nodes' rows mf m v o i number at =
    let c : Case = case_as_stands desk (in_hand s) in
    let w = made_listed desk s h' nodes nodes' rows mf m v i in
    let r = open_reads desk s ino kind h' nodes nodes' rows m v o in
    let stands = entry-stands (core_in_hand desk (in_hand s)) w.directory w.file w.listed w.reads w.among in
    let there : In mf.page (pages_within c w.directory) =
    subst (λ q. In mf.page (pages_in q)) (sym w.reads) (In-right mf.page w.file.chain.index w.file.chain.blocks (subst (λ n. In n w.file.chain.blocks) w.page stands.block)) in
    let here : In mf.page (pages_within c r.is.met) =
    subst (λ q. In mf.page (pages_in q)) (sym r.reads) (subst (λ (k : Chain). In mf.page (k.index ++ k.blocks)) (sym r.chain) (In-right mf.page (chain_in s ino).index (chain_in s ino).blocks at)) in
    let same : w.directory ≡ r.is.met = one_of (pages_within c) (judged_files c) w.directory r.is.met mf.page (listed_are_in_hand desk (in_hand s) h' nodes nodes' rows v).0 w.judged r.is.judged there here in
    let node = (sees_judged desk (in_hand s) h' nodes nodes' rows w.directory w.file v w.judged w.reads).each w.listed w.among in
    own_parent nodes' v.shows.tree w.listed.entry.ino node.0 node.1 (node.2 ∙ ap (λ (x : Met). x.ino) same ∙ r.is.number ∙ sym number ∙ sym w.number)
