-- The pages of a live file on which no write grant is open are at home.
use Rattle.trio_laws.proofs.Words.{◌++◌, ◌∙◌, ◌≡◌, Chain, Core, In, Kept, List, MetAt, Ok, OpenGrant, Row, Some, State, Write, [], ap, are_new, arith, checkpoints_of, is_core, length, page_of, page_there, pages_are, pages_new, pages_of, plain, reads_from, row_at, settled, settled_body, settled_body_met, settled_chain, slice_get, sound_parts, subst, survey, sym, true, with_pages_apart, ℕ}
use Rattle.trio_surveys.proofs.Owned.{body_sized}
use Rattle.trio_laws.proofs.StateFacts.{checkpoint_lent, lent_file, live_met, pages_there, tables}

module _ (s : State) (k : Kept s) (ino : ℕ) (r : Row) (row : row_at s.home ino ≡ Some r) (free : (g : OpenGrant) → In g s.open_grants → g.kind ≡ Write → g.ino ≡ ino → ⊥) where
  abbrev core : Core
  core = (settled s).core

  m : MetAt core plain ino r
  m = live_met s k ino r row

  body_is : settled_body (settled s) ino ≡ m.met.body
  body_is =
      ap (settled_body (settled s)) (sym m.number) ∙ settled_body_met (settled s) m.met k.fit k.verifies.sound (tables s k) m.stands

  chain_is : settled_chain (settled s) r.kind ino ≡ Ok m.file.chain
  chain_is =
      let f = reads_from core m.met m.file m.read in
      search (arith, m, body_is)

  -- a page of the file is in no checkpoint, and so it is at home what it is in the settled image
  page_home : (p : ℕ) → In p (m.file.chain.index ++ m.file.chain.blocks) → (bytes : List ℕ) × (slice_get s.home.core.pages p ≡ Some (Some bytes)) × (page_of core p ≡ Some bytes) × (is_core s.home.core.range p ≡ true)
  page_home p i =
      let listed : In p (pages_of core m.met) = subst (λ l. In p l) (sym (pages_are core m.met m.file m.read)) i in
      let none : (g : OpenGrant) → In g s.open_grants → g.kind ≡ Write → g.ino ≡ m.met.ino → ⊥ = λ g j w e. free g j w (e ∙ m.number) in
      let t = pages_there s k m.met p m.stands listed none in
      let q = page_there core p t.0 t.1 in
      let bare = with_pages_apart (checkpoints_of s.open_grants) s.home.core.pages p
      (λ j. let c = checkpoint_lent s k p j in none c.0 c.1 c.2 (lent_file s k m.met p c.0 m.stands listed c.1 c.2 c.3)) in
      (t.0, sym bare ∙ q.1, t.1, q.0)

  pub at_home : (c : Chain) × (settled_chain (settled s) r.kind ino ≡ Ok c) × ((p : ℕ) → In p (c.index ++ c.blocks) → (bytes : List ℕ) × (slice_get s.home.core.pages p ≡ Some (Some bytes)) × (page_of core p ≡ Some bytes) × (is_core s.home.core.range p ≡ true)) × (are_new [] (c.index ++ c.blocks) ≡ true) × (length (settled_body (settled s) ino) ≡ 64)
  at_home =
      let paged = (sound_parts core plain k.verifies.sound).paged in
      let new : are_new [] (m.file.chain.index ++ m.file.chain.blocks) ≡ true =
      ap (are_new []) (sym (pages_are core m.met m.file m.read)) ∙ pages_new core (survey core plain) m.met paged m.stands in
      let sized : length (settled_body (settled s) ino) ≡ 64 =
      ap length body_is ∙ body_sized m.met.kind core.range m.met.body m.file.body (reads_from core m.met m.file m.read).body in
      (m.file.chain, chain_is, page_home, new, sized)
