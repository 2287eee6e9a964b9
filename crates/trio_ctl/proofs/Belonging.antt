-- What belongs to a library is what it was given.
use Rattle.trio_ctl.proofs.Words.{Bundled, Checkpointed, Creds, Entries, FreshParts, GivenTo, Hold, HoldParts, In, In-cases, In-find, In-list_any, In-map, InoParts, IsControlled, IsSomeAnd, IsTrue, Keyed, Kind, LentFile, LentPage, LibNo, List, None, OpenGrant, Opened, Option, Outline, Row, Sheet, Shown, Some, State, Store, TableGrant, WasLent, WereHeld, Write, Written, [], and_from, and_parts, ap, are_given_by, are_new, bundle_in, bytes_eq, bytes_eq-Decides, checkpoint_at, eq-eqb, eqb-true, false≢true, find-In, first_with, flat_map, flat_map-In, fresh_sheet, grants_in, has_kind, hold_kind, hold_of, holder, inl, inr, is_hold, is_write, keyed, length, lent_sheet, lib_at, list_all, list_all-In, list_all-each, list_any-In, map, map-In, option_map, refl, row_in, same_kind, same_kind-self, same_kind-true, sheet_numbers, state_of, subst, sym, true, with_checkpoint, write_alone, write_is, written_in, ℕ, ◌&&◌, ◌++◌, ◌∙◌, ◌∷◌, ◌≡◌}
use Rattle.std.specs.Prelude.{◌==◌}
use Rattle.trio_grants.specs.Grants.{is_on}
use Rattle.trio_open.specs.Belonging.{Belongs, IsHoldOf, IsLeaseOf, IsNumberOf, IsPageOf, lent_numbers}
use Rattle.trio_ctl.specs.inner.Belonging.{is_lease_by}
use Rattle.trio_open.proofs.Given.{numbered_back, numbered_from, whole_sheets}
use Rattle.trio_open.specs.inner.Given.{are_numbered, has_pages_of, is_held_by, is_hold_by, is_number_by, is_out_to, is_page_by, stand_once, writes_since}

-- ---- what is out

out_from : (lib : LibNo) (o : Option LibNo) → is_out_to lib o ≡ true → o ≡ Some (record { 0 = lib.0 })
out_from lib None e = absurd (false≢true e)
out_from lib (Some other) e = ap (λ n. Some (record { 0 = n })) (eqb-true other.0 lib.0 e)

out_back : (lib : LibNo) (o : Option LibNo) → o ≡ Some (record { 0 = lib.0 }) → is_out_to lib o ≡ true
out_back lib o e = ap (is_out_to lib) e ∙ eq-eqb lib.0 lib.0 refl

-- ---- holds

-- the tests of a hold
record IsSameHold (lib : LibNo) (h : HoldParts) (g : OpenGrant) : Type 0 where
  kind : g.kind ≡ Hold
  lib_is : g.lib ≡ lib.0
  is : hold_of g ≡ h

hold_from : (lib : LibNo) (h : HoldParts) (g : OpenGrant) → is_hold_by lib h g ≡ true → IsSameHold lib h g
hold_from lib h g e =
    let a1 = is_hold g.kind in
    let a2 = g.lib == lib.0 in
    let a3 = h.lib.0 == lib.0 in
    let a4 = g.ino == h.ino in
    let a5 = same_kind g.of h.kind in
    let a6 = g.entry == h.entry in
    let a7 = g.parent == h.parent in
    let a8 = bytes_eq g.body h.body in
    let a9 = g.children == h.children in
    let p8 = and_parts (a1 && a2 && a3 && a4 && a5 && a6 && a7 && a8) a9 e in
    let p7 = and_parts (a1 && a2 && a3 && a4 && a5 && a6 && a7) a8 p8.0 in
    let p6 = and_parts (a1 && a2 && a3 && a4 && a5 && a6) a7 p7.0 in
    let p5 = and_parts (a1 && a2 && a3 && a4 && a5) a6 p6.0 in
    let p4 = and_parts (a1 && a2 && a3 && a4) a5 p5.0 in
    let p3 = and_parts (a1 && a2 && a3) a4 p4.0 in
    let p2 = and_parts (a1 && a2) a3 p3.0 in
    let p1 = and_parts a1 a2 p2.0 in
    let own : g.lib ≡ lib.0 = eqb-true g.lib lib.0 p1.1 in
    let named : g.lib ≡ h.lib.0 = own ∙ sym (eqb-true h.lib.0 lib.0 p2.1) in
    let H : ℕ → ℕ → Kind → ℕ → ℕ → List ℕ → ℕ → HoldParts = λ l i k n p b m. record { lib = record { 0 = l }; ino = i; kind = k; entry = n; parent = p; body = b; children = m } in
    record {
      kind = hold_kind g.kind p1.0;
      lib_is = own;
      is =
          ap (λ l. H l g.ino g.of g.entry g.parent g.body g.children) named
          ∙ ap (λ i. H h.lib.0 i g.of g.entry g.parent g.body g.children) (eqb-true g.ino h.ino p3.1)
          ∙ ap (λ k. H h.lib.0 h.ino k g.entry g.parent g.body g.children) (same_kind-true g.of h.kind p4.1)
          ∙ ap (λ n. H h.lib.0 h.ino h.kind n g.parent g.body g.children) (eqb-true g.entry h.entry p5.1)
          ∙ ap (λ p. H h.lib.0 h.ino h.kind h.entry p g.body g.children) (eqb-true g.parent h.parent p6.1)
          ∙ ap (λ b. H h.lib.0 h.ino h.kind h.entry h.parent b g.children) ((bytes_eq-Decides g.body h.body).0 p7.1)
          ∙ ap (λ m. H h.lib.0 h.ino h.kind h.entry h.parent h.body m) (eqb-true g.children h.children p8.1);
    }

hold_same : (lib : LibNo) (g : OpenGrant) → g.kind ≡ Hold → g.lib ≡ lib.0 → is_hold_by lib (hold_of g) g ≡ true
hold_same lib g kind own =
    let a1 = is_hold g.kind in
    let a2 = g.lib == lib.0 in
    let a3 = g.lib == lib.0 in
    let a4 = g.ino == g.ino in
    let a5 = same_kind g.of g.of in
    let a6 = g.entry == g.entry in
    let a7 = g.parent == g.parent in
    let a8 = bytes_eq g.body g.body in
    let a9 = g.children == g.children in
    and_from (a1 && a2 && a3 && a4 && a5 && a6 && a7 && a8) a9
    (and_from (a1 && a2 && a3 && a4 && a5 && a6 && a7) a8
    (and_from (a1 && a2 && a3 && a4 && a5 && a6) a7
    (and_from (a1 && a2 && a3 && a4 && a5) a6
    (and_from (a1 && a2 && a3 && a4) a5
    (and_from (a1 && a2 && a3) a4
    (and_from (a1 && a2) a3
    (and_from a1 a2 (ap is_hold kind) (eq-eqb g.lib lib.0 own))
    (eq-eqb g.lib lib.0 own))
    (eq-eqb g.ino g.ino refl))
    (same_kind-self g.of g.of refl))
    (eq-eqb g.entry g.entry refl))
    (eq-eqb g.parent g.parent refl))
    ((bytes_eq-Decides g.body g.body).1 refl))
    (eq-eqb g.children g.children refl)

hold_back : (lib : LibNo) (h : HoldParts) (g : OpenGrant) → IsSameHold lib h g → is_hold_by lib h g ≡ true
hold_back lib h g s = subst (λ (x : HoldParts). is_hold_by lib x g ≡ true) s.is (hold_same lib g s.kind s.lib_is)

-- ---- write leases

-- what a holder that passes the test is
record IsWriter (lib : LibNo) (entry : ℕ) (g : TableGrant) : Type 0 where
  lib_is : g.lib.0 ≡ lib.0
  kind : g.kind ≡ Write
  entry_is : g.entry ≡ entry

writer_from : (lib : LibNo) (entry : ℕ) (o : Option TableGrant) → writes_since lib entry (option_map holder o) ≡ true → (g : TableGrant) × (o ≡ Some g) × IsWriter lib entry g
writer_from lib entry None e = absurd (false≢true e)
writer_from lib entry (Some g) e =
    let a = and_parts (g.lib.0 == lib.0 && is_write g.kind) (g.entry == entry) e in
    let b = and_parts (g.lib.0 == lib.0) (is_write g.kind) a.0 in
    (g, refl, record { lib_is = eqb-true g.lib.0 lib.0 b.0; kind = write_is g.kind b.1; entry_is = eqb-true g.entry entry a.1 })

writer_back : (lib : LibNo) (entry : ℕ) (g : TableGrant) → IsWriter lib entry g → writes_since lib entry (option_map holder (Some g)) ≡ true
writer_back lib entry g w =
    and_from (g.lib.0 == lib.0 && is_write g.kind) (g.entry == entry)
    (and_from (g.lib.0 == lib.0) (is_write g.kind) (eq-eqb g.lib.0 lib.0 w.lib_is) (ap is_write w.kind))
    (eq-eqb g.entry entry w.entry_is)

kind_from : (kind of : Kind) (o : Option Row) → has_kind kind o ≡ true → IsSomeAnd o (λ (r : Row). r.kind ≡ of) → of ≡ kind
kind_from kind of None e some = absurd (false≢true e)
kind_from kind of (Some r) e some = sym some ∙ sym (same_kind-true kind r.kind e)

kind_back : (kind of : Kind) (o : Option Row) → of ≡ kind → IsSomeAnd o (λ (r : Row). r.kind ≡ of) → has_kind kind o ≡ true
kind_back kind of None e some = absurd some
kind_back kind of (Some r) e some = same_kind-self kind r.kind (sym (some ∙ e))

module _ (s : Store) (first : ℕ) (table : List Keyed) (files : List Opened) (creds : List Creds) (entries : Entries) (begun : List (Option Outline)) (k : IsControlled s first table files creds entries begun) (lib : LibNo) where
  abbrev st : State
  st = state_of s first (grants_in files) creds entries.made

  abbrev cs : List (Option Checkpointed)
  cs = s.checkpoints.items

  -- an open grant is kept
  kept_of : (g : OpenGrant) → In g st.open_grants → (o : Opened) × In o files × (g ≡ with_checkpoint cs o.grant)
  kept_of g i =
      let h = map-In (with_checkpoint cs) g (grants_in files) i in
      let o = map-In (λ (o : Opened). o.grant) h.0 files h.1 in
      (o.0, o.1, h.2 ∙ ap (with_checkpoint cs) o.2)

  open_of : (o : Opened) → In o files → In (with_checkpoint cs o.grant) st.open_grants
  open_of o i = In-map (with_checkpoint cs) o.grant (grants_in files) (In-map (λ (o : Opened). o.grant) o files i)

  -- a grant of the table is kept
  tabled : (g : TableGrant) (ino : ℕ) → first_with (is_on ino None) table ≡ Some g → (o : Opened) × In o files × (g ≡ (keyed o).1) × (g.ino ≡ ino)
  tabled g ino e =
      let f = find-In (is_on ino None) (map (λ (x : Keyed). x.1) table) g e in
      let x = map-In (λ (x : Keyed). x.1) g table f.0 in
      let o = map-In keyed x.0 files (subst (In x.0) k.grants x.1) in
      (o.0, o.1, x.2 ∙ ap (λ (x : Keyed). x.1) o.2, eqb-true g.ino ino f.1)

  pub lease_from : (f : Shown) → is_lease_by table s lib f ≡ true → IsLeaseOf st lib.0 f
  lease_from f e =
      let t1 = f.lib.0 == lib.0 in
      let t2 = writes_since lib f.entry (option_map holder (first_with (is_on f.ino None) table)) in
      let t3 = has_kind f.kind (row_in s.rows f.ino) in
      let t4 = has_pages_of f (checkpoint_at cs f.ino) in
      let p3 = and_parts (t1 && t2 && t3) t4 e in
      let p2 = and_parts (t1 && t2) t3 p3.0 in
      let p1 = and_parts t1 t2 p2.0 in
      let w = writer_from lib f.entry (first_with (is_on f.ino None) table) p1.1 in
      let o = tabled w.0 f.ino w.1 in
      let g : OpenGrant = o.0.grant in
      let kind : g.kind ≡ Write = sym (ap (λ (x : TableGrant). x.kind) o.2) ∙ w.2.kind in
      let ino : g.ino ≡ f.ino = sym (ap (λ (x : TableGrant). x.ino) o.2) ∙ o.3 in
      let c = k.stored.covers g (In-map (λ (o : Opened). o.grant) o.0 files o.1) kind in
      let there : checkpoint_at cs f.ino ≡ Some c.0 = ap (checkpoint_at cs) (sym ino) ∙ c.1 in
      let pages = and_parts (are_numbered f.index c.0.chain.index) (are_numbered f.blocks c.0.chain.blocks) (sym (ap (has_pages_of f) there) ∙ p3.1) in
      let index = numbered_from f.index c.0.chain.index pages.0 in
      let blocks = numbered_from f.blocks c.0.chain.blocks pages.1 in
      record {
        grant = with_checkpoint cs g;
        is_open = open_of o.0 o.1;
        lib = sym (ap (λ (x : TableGrant). x.lib.0) o.2) ∙ w.2.lib_is;
        kind = kind;
        named = eqb-true f.lib.0 lib.0 p1.0;
        ino = ino;
        of = kind_from f.kind g.of (row_in s.rows f.ino) p2.1 (subst (λ n. IsSomeAnd (row_in s.rows n) (λ (r : Row). r.kind ≡ g.of)) ino (k.kinds o.0 o.1));
        entry = sym (ap (λ (x : TableGrant). x.entry) o.2) ∙ w.2.entry_is;
        index = index.0 ∙ ap (λ ch. ch.index) c.2.chain;
        blocks = blocks.0 ∙ ap (λ ch. ch.blocks) c.2.chain;
        whole_index = index.1;
        whole_blocks = blocks.1;
      }

  pub lease_back : (f : Shown) → IsLeaseOf st lib.0 f → is_lease_by table s lib f ≡ true
  lease_back f l =
      let t1 = f.lib.0 == lib.0 in
      let t2 = writes_since lib f.entry (option_map holder (first_with (is_on f.ino None) table)) in
      let t3 = has_kind f.kind (row_in s.rows f.ino) in
      let t4 = has_pages_of f (checkpoint_at cs f.ino) in
      let o = kept_of l.grant l.is_open in
      let g : OpenGrant = o.0.grant in
      let ino : g.ino ≡ f.ino = sym (ap (λ (x : OpenGrant). x.ino) o.2) ∙ l.ino in
      let kind : g.kind ≡ Write = sym (ap (λ (x : OpenGrant). x.kind) o.2) ∙ l.kind in
      let listed : In (keyed o.0).1 (map (λ (x : Keyed). x.1) table) = In-map (λ (x : Keyed). x.1) (keyed o.0) table (subst (In (keyed o.0)) (sym k.grants) (In-map keyed o.0 files o.1)) in
      let t = In-find (is_on f.ino None) (map (λ (x : Keyed). x.1) table) (keyed o.0).1 listed (eq-eqb g.ino f.ino ino) in
      let q = tabled t.0 f.ino t.1 in
      let there : q.0.grant.ino ≡ f.ino = sym (ap (λ (x : TableGrant). x.ino) q.2) ∙ q.3 in
      let same : with_checkpoint cs g ≡ with_checkpoint cs q.0.grant =
      write_alone st.open_grants (with_checkpoint cs g) (with_checkpoint cs q.0.grant) k.stored.kept.apart (open_of o.0 o.1) (open_of q.0 q.1) kind (ino ∙ sym there) in
      let whole : l.grant ≡ with_checkpoint cs q.0.grant = o.2 ∙ same in
      let w : IsWriter lib f.entry t.0 = record {
        lib_is = ap (λ (x : TableGrant). x.lib.0) q.2 ∙ sym (ap (λ (x : OpenGrant). x.lib) whole) ∙ l.lib;
        kind = ap (λ (x : TableGrant). x.kind) q.2 ∙ sym (ap (λ (x : OpenGrant). x.kind) whole) ∙ l.kind;
        entry_is = ap (λ (x : TableGrant). x.entry) q.2 ∙ sym (ap (λ (x : OpenGrant). x.entry) whole) ∙ l.entry;
      } in
      let c = k.stored.covers g (In-map (λ (o : Opened). o.grant) o.0 files o.1) kind in
      let covered : checkpoint_at cs f.ino ≡ Some c.0 = ap (checkpoint_at cs) (sym ino) ∙ c.1 in
      let index : lent_numbers f.index ≡ c.0.chain.index = l.index ∙ ap (λ (x : OpenGrant). sheet_numbers x.index) o.2 ∙ sym (ap (λ ch. ch.index) c.2.chain) in
      let blocks : lent_numbers f.blocks ≡ c.0.chain.blocks = l.blocks ∙ ap (λ (x : OpenGrant). sheet_numbers x.blocks) o.2 ∙ sym (ap (λ ch. ch.blocks) c.2.chain) in
      and_from (t1 && t2 && t3) t4
      (and_from (t1 && t2) t3
      (and_from t1 t2 (eq-eqb f.lib.0 lib.0 l.named) (ap (λ x. writes_since lib f.entry (option_map holder x)) t.1 ∙ writer_back lib f.entry t.0 w))
      (kind_back f.kind g.of (row_in s.rows f.ino) (sym (ap (λ (x : OpenGrant). x.of) o.2) ∙ l.of) (subst (λ n. IsSomeAnd (row_in s.rows n) (λ (r : Row). r.kind ≡ g.of)) ino (k.kinds o.0 o.1))))
      (ap (has_pages_of f) covered ∙ and_from (are_numbered f.index c.0.chain.index) (are_numbered f.blocks c.0.chain.blocks) (numbered_back f.index c.0.chain.index index l.whole_index) (numbered_back f.blocks c.0.chain.blocks blocks l.whole_blocks))

  held_from : (h : HoldParts) → is_held_by files lib h ≡ true → IsHoldOf st lib.0 h
  held_from h e =
      let o = list_any-In (λ (o : Opened). is_hold_by lib h o.grant) files e in
      let t = hold_from lib h o.0.grant o.2 in
      record { grant = with_checkpoint cs o.0.grant; is_open = open_of o.0 o.1; lib = t.lib_is; kind = t.kind; is = t.is }

  held_back : (h : HoldParts) → IsHoldOf st lib.0 h → is_held_by files lib h ≡ true
  held_back h t =
      let o = kept_of t.grant t.is_open in
      In-list_any (λ (o : Opened). is_hold_by lib h o.grant) o.0 files o.1
      (hold_back lib h o.0.grant (record {
        kind = sym (ap (λ (x : OpenGrant). x.kind) o.2) ∙ t.kind;
        lib_is = sym (ap (λ (x : OpenGrant). x.lib) o.2) ∙ t.lib;
        is = sym (ap hold_of o.2) ∙ t.is;
      }))

  page_from : (p : FreshParts) → is_page_by s.allotments.pages lib p ≡ true → IsPageOf st lib.0 p
  page_from p e =
      let a = and_parts (p.lib.0 == lib.0 && is_out_to lib (lib_at s.allotments.pages p.no.0)) (length p.page == 4096) e in
      let b = and_parts (p.lib.0 == lib.0) (is_out_to lib (lib_at s.allotments.pages p.no.0)) a.0 in
      record { named = eqb-true p.lib.0 lib.0 b.0; is_out = out_from lib (lib_at s.allotments.pages p.no.0) b.1; whole = eqb-true (length p.page) 4096 a.1 }

  page_back : (p : FreshParts) → IsPageOf st lib.0 p → is_page_by s.allotments.pages lib p ≡ true
  page_back p t =
      and_from (p.lib.0 == lib.0 && is_out_to lib (lib_at s.allotments.pages p.no.0)) (length p.page == 4096)
      (and_from (p.lib.0 == lib.0) (is_out_to lib (lib_at s.allotments.pages p.no.0)) (eq-eqb p.lib.0 lib.0 t.named) (out_back lib (lib_at s.allotments.pages p.no.0) t.is_out))
      (eq-eqb (length p.page) 4096 t.whole)

  number_from : (n : InoParts) → is_number_by s.allotments.numbers lib n ≡ true → IsNumberOf st lib.0 n
  number_from n e =
      let b = and_parts (n.lib.0 == lib.0) (is_out_to lib (lib_at s.allotments.numbers n.no)) e in
      record { named = eqb-true n.lib.0 lib.0 b.0; is_out = out_from lib (lib_at s.allotments.numbers n.no) b.1 }

  number_back : (n : InoParts) → IsNumberOf st lib.0 n → is_number_by s.allotments.numbers lib n ≡ true
  number_back n t = and_from (n.lib.0 == lib.0) (is_out_to lib (lib_at s.allotments.numbers n.no)) (eq-eqb n.lib.0 lib.0 t.named) (out_back lib (lib_at s.allotments.numbers n.no) t.is_out)

  pub belongs_from : (b : Bundled) → are_given_by table files s lib b ≡ true → stand_once b ≡ true → Belongs st lib.0 b
  belongs_from b given once =
      let g1 = list_all (λ (f : LentFile). is_lease_by table s lib f.stands) b.writes in
      let g2 = list_all (λ (h : HoldParts). is_held_by files lib h) b.holds in
      let g3 = list_all (λ (p : FreshParts). is_page_by s.allotments.pages lib p) b.pages in
      let g4 = list_all (λ (n : InoParts). is_number_by s.allotments.numbers lib n) b.inodes in
      let p3 = and_parts (g1 && g2 && g3) g4 given in
      let p2 = and_parts (g1 && g2) g3 p3.0 in
      let p1 = and_parts g1 g2 p2.0 in
      let o1 = are_new [] (map (λ (f : LentFile). f.stands.ino) b.writes) in
      let o2 = are_new [] (map (λ (h : HoldParts). h.ino) b.holds) in
      let o3 = are_new [] (map (λ (p : FreshParts). p.no.0) b.pages) in
      let o4 = are_new [] (map (λ (n : InoParts). n.no) b.inodes) in
      let q3 = and_parts (o1 && o2 && o3) o4 once in
      let q2 = and_parts (o1 && o2) o3 q3.0 in
      let q1 = and_parts o1 o2 q2.0 in
      record {
        writes = λ f i. lease_from f.stands (list_all-In (λ (f : LentFile). is_lease_by table s lib f.stands) f b.writes p1.0 i);
        holds = λ h i. held_from h (list_all-In (λ (h : HoldParts). is_held_by files lib h) h b.holds p1.1 i);
        pages = λ p i. page_from p (list_all-In (λ (p : FreshParts). is_page_by s.allotments.pages lib p) p b.pages p2.1 i);
        numbers = λ n i. number_from n (list_all-In (λ (n : InoParts). is_number_by s.allotments.numbers lib n) n b.inodes p3.1 i);
        writes_once = q1.0;
        holds_once = q1.1;
        pages_once = q2.1;
        numbers_once = q3.1;
      }

  pub belongs_back : (b : Bundled) → Belongs st lib.0 b → (are_given_by table files s lib b ≡ true) × (stand_once b ≡ true)
  belongs_back b t =
      let g1 = list_all (λ (f : LentFile). is_lease_by table s lib f.stands) b.writes in
      let g2 = list_all (λ (h : HoldParts). is_held_by files lib h) b.holds in
      let g3 = list_all (λ (p : FreshParts). is_page_by s.allotments.pages lib p) b.pages in
      let g4 = list_all (λ (n : InoParts). is_number_by s.allotments.numbers lib n) b.inodes in
      let o1 = are_new [] (map (λ (f : LentFile). f.stands.ino) b.writes) in
      let o2 = are_new [] (map (λ (h : HoldParts). h.ino) b.holds) in
      let o3 = are_new [] (map (λ (p : FreshParts). p.no.0) b.pages) in
      let o4 = are_new [] (map (λ (n : InoParts). n.no) b.inodes) in (
        and_from (g1 && g2 && g3) g4
            (and_from (g1 && g2) g3
            (and_from g1 g2
            (list_all-each (λ (f : LentFile). is_lease_by table s lib f.stands) b.writes (λ f i. lease_back f.stands (t.writes f i)))
            (list_all-each (λ (h : HoldParts). is_held_by files lib h) b.holds (λ h i. held_back h (t.holds h i))))
            (list_all-each (λ (p : FreshParts). is_page_by s.allotments.pages lib p) b.pages (λ p i. page_back p (t.pages p i))))
            (list_all-each (λ (n : InoParts). is_number_by s.allotments.numbers lib n) b.inodes (λ n i. number_back n (t.numbers n i))),
        and_from (o1 && o2 && o3) o4 (and_from (o1 && o2) o3 (and_from o1 o2 t.writes_once t.holds_once) t.pages_once) t.numbers_once,
      )

-- ---- what belongs was given

numbers_lent : (ps : List LentPage) → sheet_numbers (map lent_sheet ps) ≡ lent_numbers ps
numbers_lent [] = refl
numbers_lent (p ∷ ps) = ap (λ l. p.no.0 ∷ l) (numbers_lent ps)

numbers_fresh : (ps : List FreshParts) → sheet_numbers (map fresh_sheet ps) ≡ map (λ p. p.no.0) ps
numbers_fresh [] = refl
numbers_fresh (p ∷ ps) = ap (λ l. p.no.0 ∷ l) (numbers_fresh ps)

numbers_written : (fs : List LentFile) → map (λ (w : Written). w.ino) (map (λ (f : LentFile). written_in f.stands) fs) ≡ map (λ (f : LentFile). f.stands.ino) fs
numbers_written [] = refl
numbers_written (f ∷ fs) = ap (λ l. f.stands.ino ∷ l) (numbers_written fs)

module _ (s : State) (lib : ℕ) (b : Bundled) (t : Belongs s lib b) where
  pub given_belongs : GivenTo s lib (bundle_in b)
  given_belongs = record {
    writes = λ w i.
        let f = map-In (λ (f : LentFile). written_in f.stands) w b.writes i in
        let l = t.writes f.0 f.1 in
        subst (λ (x : Written). WasLent s lib x) (sym f.2) (record {
          grant = l.grant;
          is_open = l.is_open;
          lib = l.lib;
          kind = l.kind;
          ino = l.ino;
          of = l.of;
          index = numbers_lent f.0.stands.index ∙ l.index;
          blocks = numbers_lent f.0.stands.blocks ∙ l.blocks;
        });
    holds = λ n i.
        let h = map-In (λ (h : HoldParts). h.ino) n b.holds i in
        let l = t.holds h.0 h.1 in
        record { grant = l.grant; is_open = l.is_open; lib = l.lib; kind = l.kind; ino = ap (λ (x : HoldParts). x.ino) l.is ∙ sym h.2 };
    pages = λ n i.
        let p = map-In (λ (p : FreshParts). p.no.0) n b.pages (subst (In n) (numbers_fresh b.pages) i) in
        subst (λ m. lib_at s.pages_out m ≡ Some (record { 0 = lib })) (sym p.2) (t.pages p.0 p.1).is_out;
    numbers = λ n i.
        let p = map-In (λ (x : InoParts). x.no) n b.inodes i in
        subst (λ m. lib_at s.numbers_out m ≡ Some (record { 0 = lib })) (sym p.2) (t.numbers p.0 p.1).is_out;
    full = λ x i.
        elim (In-cases x (flat_map (λ (w : Written). w.index ++ w.blocks) (map (λ (f : LentFile). written_in f.stands) b.writes)) (map fresh_sheet b.pages) i) [
          | inl j ↦
              let w = flat_map-In (λ (w : Written). w.index ++ w.blocks) x (map (λ (f : LentFile). written_in f.stands) b.writes) j in
              let f = map-In (λ (f : LentFile). written_in f.stands) w.0 b.writes w.1 in
              let l = t.writes f.0 f.1 in
              let here : In x (map lent_sheet f.0.stands.index ++ map lent_sheet f.0.stands.blocks) = subst (λ (y : Written). In x (y.index ++ y.blocks)) f.2 w.2 in
              elim (In-cases x (map lent_sheet f.0.stands.index) (map lent_sheet f.0.stands.blocks) here) [
                | inl a ↦ whole_sheets f.0.stands.index l.whole_index x a
                | inr c ↦ whole_sheets f.0.stands.blocks l.whole_blocks x c
              ]
          | inr j ↦ (let p = map-In fresh_sheet x b.pages j in ap (λ (y : Sheet). length y.bytes) p.2 ∙ (t.pages p.0 p.1).whole)
        ];
    writes_once = subst (λ l. IsTrue (are_new [] l)) (sym (numbers_written b.writes)) t.writes_once;
    holds_once = t.holds_once;
    pages_once = subst (λ l. IsTrue (are_new [] l)) (sym (numbers_fresh b.pages)) t.pages_once;
    numbers_once = t.numbers_once;
  }

  pub held_belongs : WereHeld s lib b.holds
  held_belongs h i =
      let l = t.holds h i in
      record {
        grant = l.grant;
        is_open = l.is_open;
        lib = l.lib;
        kind = l.kind;
        ino = ap (λ (x : HoldParts). x.ino) l.is;
        of = ap (λ (x : HoldParts). x.kind) l.is;
        body = ap (λ (x : HoldParts). x.body) l.is;
      }
