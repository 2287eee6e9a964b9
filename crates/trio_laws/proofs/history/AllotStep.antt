-- A step of an allotment extends the history.
use Rattle.trio_laws.proofs.Words.{◌≡◌, Allot, Beside, Bool, Comes, Core, CtlAnswer, Given, In, In-right, Kept, NoInodes, NoPages, None, OpenGrant, Option, Outcome, Pages, Row, Some, State, allot_outcome, allots, ap, arith, blocks_of, cond, false, free_numbers, free_pages, free_unlisted, inl, inr, length, logged, ltb, ltb-false, node_by, nodes_of, page_of, page_same, pages_are, plain, refl, row_at, settled, subst, sym, take, true, with_other, writer_of, ℕ}
use Rattle.std.proofs.Common.{length-take-le, ltb-true}
use Rattle.trio_laws.proofs.Agreeing.{image_with}
use Rattle.trio_laws.proofs.Allots.{pages, pages_now, page_free, agree, fit'}
use Rattle.trio_laws.proofs.StateFacts.{tables}
use Rattle.trio_laws.proofs.history.Extends.{Extends, past_is}
use Rattle.trio_laws.proofs.history.Facts.{nodes_by_one}
use Rattle.trio_laws.proofs.history.Listing.{met_at}
use Rattle.trio_laws.proofs.history.Still.{node_same, name_still, size_still, blocks_still, guard_still}

module _ (s : State) (k : Kept s) (lib count many : ℕ) where
  abbrev core : Core
  core = (settled s).core

  abbrev after : Pages
  after = pages s lib count many k

  abbrev s' : State
  s' = allots s lib (take count (free_pages s)) (take many (free_numbers s))

  -- a block of a file is not free
  block_stays : (n : ℕ) (r : Row) (row : row_at s.home n ≡ Some r) (p : ℕ) → In p (met_at (settled s) k.fit k.verifies n r row).file.chain.blocks → page_of (with_other core after) p ≡ page_of core p
  block_stays n r row p j =
      let q = met_at (settled s) k.fit k.verifies n r row in
      elim (pages_now s lib count many k p) [
        | inl same ↦ page_same core after p same
        | inr gone ↦
            absurd (free_unlisted core plain k.fit k.verifies.sound (settled s) (tables s k) p (page_free s lib count many p gone.0).0 q.met q.stands (subst (λ l. In p l) (sym (pages_are core q.met q.file q.read)) (In-right p q.file.chain.index q.file.chain.blocks j)))
      ]

  blocks_now : (n : ℕ) (r : Row) (row : row_at s.home n ≡ Some r) (w : Option OpenGrant) → blocks_of (image_with (settled s) after) n r w ≡ blocks_of (settled s) n r w
  blocks_now n r row (Some h) = refl
  blocks_now n r row None = blocks_still (settled s) after k.fit (fit' s lib count many k) k.verifies (agree s lib count many k) n r row (block_stays n r row)

  one : (n : ℕ) (o : Option Row) → row_at s.home n ≡ o → node_by (settled s') n (writer_of s' n) o ≡ node_by (settled s) n (writer_of s n) o
  one n None row = refl
  one n (Some r) row =
      ap Some (node_same (settled s) (settled s') n r (writer_of s n) (writer_of s' n)
      (name_still (settled s) after k.fit (fit' s lib count many k) k.verifies (agree s lib count many k) n r row)
      (size_still (settled s) after k.fit (fit' s lib count many k) k.verifies (agree s lib count many k) n r row)
      (guard_still (settled s) after k.fit (fit' s lib count many k) k.verifies (agree s lib count many k) n r row)
      (λ plain'. blocks_now n r row (writer_of s n)))

  pub allot_nodes : nodes_of s' ≡ nodes_of s
  allot_nodes = nodes_by_one s s' refl (λ n. one n (row_at s.home n) refl)

  either : (x : Beside) (a b : Bool) → ltb (length (free_pages s)) count ≡ a → ltb (length (free_numbers s)) many ≡ b → (let o = cond {A = Outcome} a (record { answer = NoPages count (length (free_pages s)); after = logged s }) (cond b (record { answer = NoInodes many (length (free_numbers s)); after = logged s }) (record { answer = Given (take count (free_pages s)) (take many (free_numbers s)); after = s' })) in Extends s x (Allot lib count many) o.answer o.after)
  either x true b p q = record { legal = (refl, ltb-true (length (free_pages s)) count p); comes = refl; tells = refl; says = refl }
  either x false true p q = record { legal = (refl, ltb-true (length (free_numbers s)) many q); comes = refl; tells = refl; says = refl }
  either x false false p q = search (arith, ltb-true, length-take-le, ltb-false, past_is, allot_nodes)

  pub allot_extends : (x : Beside) (answer : CtlAnswer) (t : State) → Comes (allot_outcome s lib count many) answer t → Extends s x (Allot lib count many) answer t
  allot_extends x answer t c =
      let E : CtlAnswer → State → Type 0 = λ a u. Extends s x (Allot lib count many) a u in
      let o = allot_outcome s lib count many in
      subst (λ a. E a t) (sym c.0) (subst (λ u. E o.answer u) (sym c.1) (either x (ltb (length (free_pages s)) count) (ltb (length (free_numbers s)) many) refl refl))
