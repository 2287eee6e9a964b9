-- A grant leaves the nodes as they are.
use Rattle.trio_laws.proofs.Words.{◌&&◌, ◌∙◌, ◌≡◌, Core, FileRead, GrantKind, Hold, In, In-right, Kept, Met, None, Ok, OpenGrant, Option, Pages, Read, Row, Some, State, Write, [], and_from, and_right, ap, arith, block_sheets, blocks_of, cases_eq, eq-eqb, eqb, false, false≢true, file_of, grant_fault, inl, inr, is_write, lent_pages, ne_eqb, node_by, node_in, nodes_of, one_met, opened, opens, page_of, page_owner, page_same, pages_are, pages_of, plain, refl, row_at, row_by, settled, settled_chain, sound_parts, subst, survey, sym, true, with_other, writer_of, ℕ}
use Rattle.trio_laws.proofs.Agreeing.{image_with}
use Rattle.trio_laws.proofs.Grants.{settled_same, excluded_none}
use Rattle.trio_laws.proofs.StateFacts.{live_met}
use Rattle.trio_laws.proofs.WriteGrant.{pages, pages_now, agree, fit'}
use Rattle.trio_laws.proofs.history.Facts.{find_push, find_none, find_last, nodes_by_one}
use Rattle.trio_laws.proofs.history.Listing.{met_at}
use Rattle.trio_laws.proofs.history.Still.{node_same, name_still, size_still, blocks_still, guard_still}

-- a grant that is no write grant on a file isn't found as its writer
not_writer : (g : OpenGrant) (n : ℕ) → is_write g.kind ≡ false → (eqb g.ino n && is_write g.kind) ≡ false
not_writer g n e = and_right (eqb g.ino n) (is_write g.kind) e

other_writer : (g : OpenGrant) (n : ℕ) → (g.ino ≡ n → ⊥) → (eqb g.ino n && is_write g.kind) ≡ false
other_writer g n e = ap (λ b. b && is_write g.kind) (ne_eqb g.ino n e)

-- a read grant or a hold
module _ (s : State) (k : Kept s) (g : OpenGrant) (none : lent_pages g ≡ []) (bare : g.checkpoint ≡ []) (light : is_write g.kind ≡ false) (read : g.kind ≡ Write → ⊥) where
  pub light_nodes : nodes_of (opens s g) ≡ nodes_of s
  light_nodes = nodes_by_one s (opens s g) refl one
    where
      one : (n : ℕ) → node_in (opens s g) n ≡ node_in s n
      one n = search (arith, settled_same, find_push, not_writer)

-- a write grant on a file that is met
module _ (s : State) (k : Kept s) (lib : ℕ) (m : Met) (f : FileRead) (i : In m (survey (settled s).core plain)) (e : file_of (settled s).core m ≡ Ok f) (free : (g : OpenGrant) → In g s.open_grants → g.ino ≡ m.ino → ⊥) where
  abbrev g : OpenGrant
  g = opened s lib m.ino Write (row_by m f.body)

  abbrev core : Core
  core = (settled s).core

  abbrev after : Pages
  after = pages s k lib m f i e free

  -- a block of another file is as it was
  other_block : (n : ℕ) (r : Row) (row : row_at s.home n ≡ Some r) → (m.ino ≡ n → ⊥) → (p : ℕ) → In p (met_at (settled s) k.fit k.verifies n r row).file.chain.blocks → page_of (with_other core after) p ≡ page_of core p
  other_block n r row other p j =
      let q = met_at (settled s) k.fit k.verifies n r row in
      elim (pages_now s k lib m f i e free p) [
        | inl same ↦ page_same core after p same
        | inr gone ↦
            let mine : In p (pages_of core q.met) = subst (λ l. In p l) (sym (pages_are core q.met q.file q.read)) (In-right p q.file.chain.index q.file.chain.blocks j) in
            let lent : In p (pages_of core m) = subst (λ l. In p l) (sym (pages_are core m f e)) (In-right p f.chain.index f.chain.blocks gone.0) in
            let one : m ≡ q.met = page_owner core (survey core plain) m q.met p (sound_parts core plain k.verifies.sound).paged i q.stands lent mine in
            absurd (other (ap (λ (x : Met). x.ino) one ∙ q.number))
      ]

  blocks_now : (n : ℕ) (r : Row) (row : row_at s.home n ≡ Some r) (w : Option OpenGrant) → (m.ino ≡ n → ⊥) → blocks_of (image_with (settled s) after) n r w ≡ blocks_of (settled s) n r w
  blocks_now n r row (Some h) other = refl
  blocks_now n r row None other = blocks_still (settled s) after k.fit (fit' s k lib m f i e free) k.verifies (agree s k lib m f i e free) n r row (other_block n r row other)

  one : (n : ℕ) (o : Option Row) → row_at s.home n ≡ o → node_by (settled (opens s g)) n (writer_of (opens s g) n) o ≡ node_by (settled s) n (writer_of s n) o
  one n None row = refl
  one n (Some r) row =
      let name = name_still (settled s) after k.fit (fit' s k lib m f i e free) k.verifies (agree s k lib m f i e free) n r row in
      let size = size_still (settled s) after k.fit (fit' s k lib m f i e free) k.verifies (agree s k lib m f i e free) n r row in
      let guard = guard_still (settled s) after k.fit (fit' s k lib m f i e free) k.verifies (agree s k lib m f i e free) n r row in
      elim (cases_eq m.ino n) [
        | inr other ↦
            let writers : writer_of (opens s g) n ≡ writer_of s n = find_push (λ (h : OpenGrant). eqb h.ino n && is_write h.kind) s.open_grants g (other_writer g n other) in
            ap Some (node_same (settled s) (settled (opens s g)) n r (writer_of s n) (writer_of (opens s g) n) name size guard
            (λ plain'.
            ap (blocks_of (settled (opens s g)) n r) writers ∙ blocks_now n r row (writer_of s n) other))
        | inl same ↦
            let none : writer_of s n ≡ None = find_none (λ (h : OpenGrant). eqb h.ino n && is_write h.kind) s.open_grants (λ h j. other_writer h n (λ t. free h j (t ∙ sym same))) in
            let mine : writer_of (opens s g) n ≡ Some g = find_last (λ (h : OpenGrant). eqb h.ino n && is_write h.kind) s.open_grants g none (and_from (eqb m.ino n) true (eq-eqb m.ino n same) refl) in
            let q = live_met s k n r row in
            let kind : r.kind ≡ m.kind = ap (λ (x : Row). x.kind) q.row ∙ ap (λ (x : Met). x.kind) (one_met core plain k.fit k.verifies.sound q.met m q.stands i (q.number ∙ sym same)) in
            let lent : g.blocks ≡ blocks_of (settled s) n r None =
            ap (λ t. block_sheets core (settled_chain (settled s) t m.ino)) (sym kind) ∙ ap (λ j. block_sheets core (settled_chain (settled s) r.kind j)) same in
            ap Some (node_same (settled s) (settled (opens s g)) n r (writer_of s n) (writer_of (opens s g) n) name size guard
            (λ plain'.
            ap (blocks_of (settled (opens s g)) n r) mine ∙ lent ∙ ap (blocks_of (settled s) n r) (sym none)))
      ]

  pub write_nodes : nodes_of (opens s (opened s lib m.ino Write (row_by m f.body))) ≡ nodes_of s
  write_nodes = nodes_by_one s (opens s g) refl (λ n. one n (row_at s.home n) refl)

-- any grant that is given
pub grant_nodes : (s : State) (k : Kept s) (lib ino : ℕ) (kind : GrantKind) (r : Row) → grant_fault s lib ino kind ≡ None → row_at s.home ino ≡ Some r → nodes_of (opens s (opened s lib ino kind r)) ≡ nodes_of s
grant_nodes s k lib ino Read r e row = light_nodes s k (opened s lib ino Read r) refl refl refl (λ w. cc w)
grant_nodes s k lib ino Hold r e row = light_nodes s k (opened s lib ino Hold r) refl refl refl (λ w. cc w)
grant_nodes s k lib ino Write r e row =
    let m = live_met s k ino r row in
    let free : (g : OpenGrant) → In g s.open_grants → g.ino ≡ m.met.ino → ⊥ =
    λ g i same. false≢true (sym (excluded_none s lib ino Write e g i (same ∙ m.number))) in
    let N : ℕ → Row → Type 0 = λ n q. nodes_of (opens s (opened s lib n Write q)) ≡ nodes_of s in
    subst (λ q. N ino q) (sym m.row) (subst (λ n. N n (row_by m.met m.file.body)) m.number (write_nodes s k lib m.met m.file m.stands m.read free))
