-- The files of an accepted release: those that stay as they were, and those of the bundle's pages.
use Rattle.trio_laws.proofs.Words.{Body, Bool, Bundle, Chain, Core, Creds, FileRead, GivenTo, Hold, Image, In, In-is_among, In-right, IsFit, Kept, Kind, List, Met, None, Ok, OpenGrant, Option, Pick, Row, Some, State, Verifies, Write, Written, accepted_verifies, all_listed, and_parts, ap, arith, body_of, both_ways, bundle_pages, bundle_sheets, bytes_eq, bytes_eq-Decides, eqb, false, false≢true, file_of, file_put, fit_put, has_kind, has_owner, inl, inr, is_accepted, is_allowed, is_among, is_among-In, is_core, is_directory, is_sound, is_written, keeps_rows, leb, length, list_all, list_all-In, listed_is_core, lists_own, ltb, may_stand, met_row, next, one_met, page_from, page_of, page_put_is, pages_are, pages_of, picked_entry, place_there, plain, plain_pages, proposed, proposed_pick, reads_from, refl, row_at, row_at_is, row_by, row_of, same_kind_is, settled, settled_body, slice_get, some_of, subst, survey, survey_put, sym, true, with_pages_there, ℕ, ◌&&◌, ◌<◌, ◌∙◌, ◌≡◌}
use Rattle.std.proofs.Common.{ltb-true, map, is_some, find}
use Rattle.trio_laws.proofs.Bundles.{finds_unwritten, Unwritten, kept_chain, page_kept, unwritten_apart}
use Rattle.trio_laws.proofs.Isolated.{bare_page, plain_block, put_none}
use Rattle.trio_laws.proofs.Allots.{none_row}
use Rattle.trio_laws.proofs.Survivors.{fit_now, sound_now, classify, stand_cases, stays, unheld_row}
use Rattle.trio_laws.proofs.StateFacts.{write_alone}
use Rattle.trio_laws.proofs.history.Follows.{Follows}
use Rattle.trio_laws.proofs.history.Listing.{met_at, body_met}

module _ (s : State) (k : Kept s) (lib : ℕ) (creds : Creds) (b : Bundle) (given : GivenTo s lib b) (accepted : is_accepted (settled s) creds b ≡ true) where
  abbrev pub I : Image
  I = settled s

  abbrev pub P : Core
  P = proposed I b

  abbrev pub pick : Pick
  pick = proposed_pick I b

  abbrev pub J : Image
  J = next I b

  pub fitP : IsFit P
  fitP = fit_now s k lib creds b given accepted

  pub soundP : is_sound P pick ≡ true
  soundP = sound_now s k lib creds b given accepted

  pub fitJ : IsFit J.core
  fitJ = fit_put P pick fitP soundP

  pub verifiesJ : Verifies J
  verifiesJ = accepted_verifies I creds b fitP accepted

  -- a file that is live after it: as it is met in the proposed core, and with the bodies in place
  pub record Now (n : ℕ) (r : Row) : Type 0 where
    pub met : Met
    pub file : FileRead
    pub stands : In met (survey P pick)
    pub read : file_of P met ≡ Ok file
    pub number : met.ino ≡ n
    pub row : r ≡ row_by met file.body
    pub stands' : In met (survey J.core plain)
    pub read' : file_of J.core met ≡ Ok (record file { entries = map (picked_entry pick met.ino) file.entries })

  pub now : (n : ℕ) (r : Row) → row_at J n ≡ Some r → Now n r
  now n r row =
      let m = met_row P pick fitP soundP n r (sym (row_at_is P pick fitP soundP J (record { rows = refl; owners = refl }) n) ∙ row) in
      record {
        met = m.met;
        file = m.file;
        stands = m.stands;
        read = m.read;
        number = m.number;
        row = m.row;
        stands' = subst (λ l. In m.met l) (sym (survey_put P pick fitP soundP)) m.stands;
        read' = file_put P pick fitP soundP m.met m.file m.stands m.read;
      }

  -- a page without slots has the proposed bytes
  pub plain_page : (m : Met) (f : FileRead) (p : ℕ) → In m (survey P pick) → file_of P m ≡ Ok f → In p (plain_pages m.kind f) → page_of J.core p ≡ page_of P p
  plain_page m f p i read a = page_put_is P pick fitP soundP p ∙ put_none p (all_listed P pick) (page_of P p) (bare_page P pick soundP m f p i read a)

  -- ---- a file that stays

  pub kept_follows : (n : ℕ) (r r' : Row) (row : row_at s.home n ≡ Some r) (row' : row_at J n ≡ Some r') → (q : Row) × (row_at I (now n r' row').met.ino ≡ Some q) × ((now n r' row').met.kind ≡ q.kind) × ((now n r' row').met.body ≡ settled_body I (now n r' row').met.ino) × Unwritten b (now n r' row').met.ino → Follows I J n r r'
  kept_follows n r r' row row' c =
      let w = now n r' row' in
      let m0 = met_at I k.fit k.verifies n r row in
      let q_is : Some c.0 ≡ Some r = sym c.1 ∙ ap (row_at I) w.number ∙ row in
      let q_r : c.0 ≡ r = cc q_is in
      let kind : w.met.kind ≡ m0.met.kind = c.2 ∙ ap (λ (x : Row). x.kind) q_r ∙ ap (λ (x : Row). x.kind) m0.row in
      let body : w.met.body ≡ m0.met.body = c.3 ∙ ap (settled_body I) w.number ∙ body_met I k.fit k.verifies n r row in
      let un : Unwritten b m0.met.ino = λ x i e. c.4 x i (e ∙ m0.number ∙ sym w.number) in
      let chain = kept_chain s k lib b given w.met m0.met w.file m0.file m0.stands m0.read w.read un kind body in
      let r1 = reads_from P w.met w.file w.read in
      let r0 = reads_from I.core m0.met m0.file m0.read in
      let bodies : Some w.file.body ≡ Some m0.file.body = sym r1.body ∙ ap (λ x. body_of x I.core.range w.met.body) kind ∙ ap (body_of m0.met.kind I.core.range) body ∙ r0.body in
      let same : w.file.body ≡ m0.file.body = cc bodies in
      record {
        met = m0.met;
        met' = w.met;
        file = m0.file;
        file' = record w.file { entries = map (picked_entry pick w.met.ino) w.file.entries };
        number = m0.number;
        number' = w.number;
        stood = m0.stands;
        stands = w.stands';
        read = m0.read;
        read' = w.read';
        size = ap (λ (x : Body). x.size) same;
        guard = ap (λ (x : Body). x.guard) same;
        chain = chain;
        pages = λ plain' p a.
            let listed : In p w.file.chain.blocks = subst (λ (x : Chain). In p x.blocks) (sym chain) a in
            let bare : is_directory w.met.kind ≡ false = ap is_directory kind ∙ sym (ap (λ (x : Row). is_directory x.kind) m0.row) ∙ plain' in
            plain_page w.met w.file p w.stands w.read (plain_block w.met.kind w.file p bare listed)
            ∙ page_kept s k lib b given p (λ j. unwritten_apart s k lib b given m0.met p m0.stands un (subst (λ l. In p l) (sym (pages_are I.core m0.met m0.file m0.read)) (In-right p m0.file.chain.index m0.file.chain.blocks a)) j);
      }

  -- ---- a file of the bundle's pages

  -- a page of the bundle is there
  pub bundle_there : (p : ℕ) → is_core P.range p ≡ true → In p (bundle_pages b) → (bytes : List ℕ) × (page_of P p ≡ Some bytes)
  bundle_there p c i =
      let low : p < P.range.end = ltb-true p P.range.end (and_parts (leb P.range.first p) (ltb p P.range.end) c).1 in
      let long = fitP.long in
      let q = place_there P.pages p (omega (arith, low, long)) in
      by q.0 q.1
    where
      by : (o : Option (List ℕ)) → slice_get P.pages p ≡ Some o → (bytes : List ℕ) × (page_of P p ≡ Some bytes)
      by (Some bytes) at = (bytes, page_from P p bytes c at)
      by None at = absurd (with_pages_there (bundle_sheets b) I.core.pages p i at)

  -- each block of such a file, if it is no directory, is a whole page
  pub own_block : (n : ℕ) (r : Row) (row : row_at J n ≡ Some r) → lists_own b P (now n r row).met ≡ true → is_directory r.kind ≡ false → (p : ℕ) → In p (now n r row).file.chain.blocks → (bytes : List ℕ) × (page_of P p ≡ Some bytes) × (page_of J.core p ≡ Some bytes) × (length bytes ≡ 4096) × (is_core P.range p ≡ true)
  own_block n r row own plain' p i =
      let w = now n r row in
      let listed : In p (pages_of P w.met) = subst (λ l. In p l) (sym (pages_are P w.met w.file w.read)) (In-right p w.file.chain.index w.file.chain.blocks i) in
      let handed : In p (bundle_pages b) = is_among-In p (bundle_pages b) (list_all-In (λ page. is_among page (bundle_pages b)) p (pages_of P w.met) own listed) in
      let c = listed_is_core P w.met w.file p w.read listed in
      let t = bundle_there p c handed in
      let kind : is_directory w.met.kind ≡ false = sym (ap (λ (x : Row). is_directory x.kind) w.row) ∙ plain' in
      (t.0, t.1, plain_page w.met w.file p w.stands w.read (plain_block w.met.kind w.file p kind i) ∙ t.1, fitP.full p t.0 t.1, c)

  -- ---- which files there are

  -- A file that is met stayed as it was; or it is written and lists pages of the bundle alone; or it is new, of the library's uid and
  -- gid, and does so too.
  pub data FileIs (m : Met) : Type 0 where
    Stayed : (r : Row) → row_at I m.ino ≡ Some r → m.kind ≡ r.kind → m.body ≡ settled_body I m.ino → Unwritten b m.ino → FileIs m
    Wrote : is_written b m.ino ≡ true → is_among m.ino b.holds ≡ false → lists_own b P m ≡ true → FileIs m
    New : row_at I m.ino ≡ None → has_owner creds (row_of P (survey P pick) m.ino) ≡ true → lists_own b P m ≡ true → FileIs m

  allowed : list_all (may_stand I creds b P (survey P pick)) (survey P pick) ≡ true
  allowed = (and_parts (keeps_rows I b P (survey P pick)) (list_all (may_stand I creds b P (survey P pick)) (survey P pick)) (and_parts (is_sound P pick) (is_allowed I creds b P (survey P pick)) accepted).1).1

  pub file_is : (m : Met) → In m (survey P pick) → FileIs m
  file_is m i =
      let h : Bool = is_among m.ino b.holds in
      let l : Bool = is_some (row_at I m.ino) in
      let w : Bool = is_some (find (λ (w : Written). eqb w.ino m.ino) b.writes) in
      let x : Bool = has_kind m.kind (row_at I m.ino) && bytes_eq m.body (settled_body I m.ino) in
      let z : Bool = is_among m.ino b.numbers && has_owner creds (row_of P (survey P pick) m.ino) && lists_own b P m in
      let e = list_all-In (may_stand I creds b P (survey P pick)) m (survey P pick) allowed i in
      elim (stand_cases h l w x (lists_own b P m) z e) [
        | inl held ↦
            elim (classify s k lib creds b given accepted m i) [
              | inl c ↦ Stayed c.0 c.1 c.2 c.3 c.4
              | inr own ↦
                  let p = and_parts (has_kind m.kind (row_at I m.ino)) (bytes_eq m.body (settled_body I m.ino)) held.1 in
                  let r = kind_of m.kind (row_at I m.ino) p.0 in
                  Stayed r.0 r.1 r.2 ((bytes_eq-Decides m.body (settled_body I m.ino)).0 p.1) (held_unwritten m.ino (is_among-In m.ino b.holds held.0))
            ]
        | inr rest ↦
            elim rest [
              | inl written ↦ Wrote written.2 written.0 written.3
              | inr rest' ↦
                  elim rest' [
                    | inl live ↦
                        let r = some_of (row_at I m.ino) live.1 in
                        let un = finds_unwritten b m.ino live.2 in
                        let unheld : In m.ino b.holds → ⊥ = λ j. both_ways (is_among m.ino b.holds) live.0 (In-is_among m.ino b.holds j) in
                        let st = stays s k lib creds b given accepted m.ino r.0 r.1 unheld un in
                        let same : st.met ≡ m = one_met P pick fitP soundP st.met m st.stands i st.number in
                        let kind : m.kind ≡ r.0.kind = ap (λ (y : Met). y.kind) (sym same) ∙ ap (λ (y : Row). y.kind) (sym st.row) in
                        Stayed r.0 r.1 kind (ap (λ (y : Met). y.body) (sym same) ∙ st.body) un
                    | inr new ↦ search (arith, and_parts, none_row)
                  ]
            ]
      ]
    where
      kind_of : (kind : Kind) (o : Option Row) → has_kind kind o ≡ true → (r : Row) × (o ≡ Some r) × (kind ≡ r.kind)
      kind_of kind None e = absurd (false≢true e)
      kind_of kind (Some r) e = (r, refl, same_kind_is kind r.kind e)

      held_unwritten : (n : ℕ) → In n b.holds → Unwritten b n
      held_unwritten n i w j e =
          let h = given.holds n i in
          let g = given.writes w j in
          let same : g.grant ≡ h.grant = write_alone s.open_grants g.grant h.grant k.apart g.is_open h.is_open g.kind (g.ino ∙ e ∙ sym h.ino) in
          let wrong : Write ≡ Hold = sym g.kind ∙ ap (λ (x : OpenGrant). x.kind) same ∙ h.kind in
          absurd (cc wrong)

  -- a live file that isn't held keeps its row
  pub unheld_now : (n : ℕ) (r : Row) → row_at I n ≡ Some r → is_among n b.holds ≡ false → row_at J n ≡ Some r
  unheld_now n r row un =
      row_at_is P pick fitP soundP J (record { rows = refl; owners = refl }) n
      ∙ unheld_row s k lib creds b given accepted n r row (λ j. both_ways (is_among n b.holds) un (In-is_among n b.holds j))
