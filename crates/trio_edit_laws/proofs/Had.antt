-- A file that is taken is had: its body, and as many whole blocks as its size says.
use Rattle.trio_edit_laws.proofs.Words.{◌||◌, ◌∙◌, ◌≡◌, ◌≤◌, AreWithinLimits, Body, CoreRange, DeskSeen, Hold, In, In-right, IsWellLent, Kind, LentPage, List, MayEdit, None, Option, Read, SessionSeen, Shown, Sizes, Some, Write, [], and_parts, ap, arith, block_count, body_at, body_fits, body_in, body_sized, bytes_eq, chain_in, cond_some, core_count, dir_pages, eqb, false≢true, find-In, head_fits, index_count, is_some, leb-true, length, length-map, lent_core, lent_numbers, map-In, nat_le, open_kind, option_map_or, page_in, pages_shown, pages_shown-open, pages_shown-read, read_file, refl, serves, size_fits, size_in, subst, sym, true, ℕ, guard_fits}
use Rattle.std.proofs.Common.{map}
use Rattle.std.specs.Prelude.{unwrap_or, ◌&&◌}
use Rattle.trio_layout.specs.Body.{body_bytes, body_of}
use Rattle.trio_nodes.specs.declared.grant.GrantKind.{GrantKind}
use Rattle.trio_laws.proofs.history.Blocks.{chain_long}
use Rattle.trio_session.specs.Seen.{body_shown}
use Rattle.trio_edit_laws.proofs.OpenChain.{open_chain}
use Rattle.trio_session.specs.Deeds.{IsHad, body_had}
use Rattle.trio_session.proofs.Shows.{body_had-open, body_had-read, body_shown-open, body_shown-read}

-- no file has more blocks than there are core pages
blocks_few : (kind : Kind) (range : CoreRange) (bytes : List ℕ) (b : Body) → body_of kind range bytes ≡ Some b → block_count b.size ≤ core_count range
unfolding body_of
blocks_few kind range bytes b e =
    let x : Body = body_at bytes in
    let k = cond_some (bytes_eq bytes (body_bytes x) && body_fits kind range x) x b e in
    let fits = (and_parts (bytes_eq bytes (body_bytes x)) (body_fits kind range x) k.0).1 in
    let o = and_parts (nat_le x.mode.0 511 && nat_le (block_count x.size) (core_count range) && size_fits kind x.size && head_fits range (block_count x.size) x.head) (guard_fits kind x.guard) fits in
    let p = and_parts (nat_le x.mode.0 511 && nat_le (block_count x.size) (core_count range) && size_fits kind x.size) (head_fits range (block_count x.size) x.head) o.0 in
    let q = and_parts (nat_le x.mode.0 511 && nat_le (block_count x.size) (core_count range)) (size_fits kind x.size) p.0 in
    let r = and_parts (nat_le x.mode.0 511) (nat_le (block_count x.size) (core_count range)) q.0 in
    let P : Body → Type 0 = λ y. nat_le (block_count y.size) (core_count range) ≡ true in leb-true (block_count b.size) (core_count range) (subst P k.1 r.1)

-- the body that stands in its bytes
body_is : (kind : Kind) (range : CoreRange) (bytes : List ℕ) (b : Body) → body_of kind range bytes ≡ Some b → body_at bytes ≡ b
unfolding body_of
body_is kind range bytes b e = (cond_some (bytes_eq bytes (body_bytes (body_at bytes)) && body_fits kind range (body_at bytes)) (body_at bytes) b e).1

-- the body that is had
pub there_had : (s : SessionSeen) (ino : ℕ) → IsHad s ino → body_shown s ino ≡ Some (body_had s ino)
there_had s ino had = by (body_shown s ino) had.there
  where
    by : (o : Option (List ℕ)) → is_some o ≡ true → o ≡ Some (unwrap_or o [])
    by (Some b) e = refl
    by None e = absurd (cc e)

-- by a lease that a grant gave
module _ (sizes : Sizes) (limits : AreWithinLimits sizes) (f : Shown) (well : IsWellLent sizes f) where
  lent_count : length (map (λ (p : LentPage). p.page) f.blocks) ≡ block_count (size_in f.body)
  lent_count =
      length-map f.blocks (λ (p : LentPage). p.page)
      ∙ sym (length-map f.blocks (λ (p : LentPage). p.no.0))
      ∙ chain_long (lent_core sizes f) (index_count (block_count (size_in f.body))) (block_count (size_in f.body)) (body_at f.body).head
      (record { index = lent_numbers f.index; blocks = lent_numbers f.blocks }) well.chain (omega arith)

  lent_few : length (map (λ (p : LentPage). p.page) f.blocks) ≤ 8192
  lent_few = omega (arith, lent_count, blocks_few f.kind sizes.range f.body (body_at f.body) well.body, limits.pages)

  lent_whole : (p : List ℕ) → In p (map (λ (x : LentPage). x.page) f.blocks) → length p ≡ 4096
  lent_whole p i = (let x = map-In (λ (x : LentPage). x.page) p f.blocks i in ap (λ (l : List ℕ). length l) x.2 ∙ well.blocks x.0 x.1)

-- ---- what is had

pub pages_shown-lent : (s : SessionSeen) (ino : ℕ) (f : Shown) → open_kind s ino ≡ None → read_file s ino ≡ Some f → pages_shown s ino ≡ map (λ (p : LentPage). p.page) f.blocks
pages_shown-lent s ino f none there = pages_shown-read s ino none ∙ ap (λ (r : Option Shown). option_map_or dir_pages r []) there

module _ (desk : DeskSeen) (s : SessionSeen) (ino : ℕ) (may : MayEdit desk s) (limits : AreWithinLimits desk.sizes) where
  -- what is had of an open file
  pub open_had : (kind : Kind) → open_kind s ino ≡ Some kind → IsHad s ino
  open_had kind o =
      let c = open_chain desk s ino kind may o in
      let bytes : body_had s ino ≡ body_in s ino = body_had-open s ino kind o in
      let pages : pages_shown s ino ≡ map (page_in s.parcel) (chain_in s ino).blocks = pages_shown-open s ino kind o in
      let count : length (pages_shown s ino) ≡ block_count (size_in (body_had s ino)) =
      ap (λ (l : List (List ℕ)). length l) pages ∙ length-map (chain_in s ino).blocks (page_in s.parcel) ∙ sym c.count ∙ ap (λ (b : List ℕ). block_count (size_in b)) (sym bytes) in
      let few = blocks_few kind desk.sizes.range (body_in s ino) c.body c.read in
      let same : c.body.size ≡ size_in (body_had s ino) = sym (ap (λ (b : Body). b.size) c.at) ∙ ap size_in (sym bytes) in
      record {
        there = ap is_some (body_shown-open s ino kind o);
        body = ap (λ (b : List ℕ). length b) bytes ∙ body_sized kind desk.sizes.range (body_in s ino) c.body c.read;
        blocks = count;
        few = omega (arith, count, few, same, limits.pages);
        whole = λ p i.
            let x = map-In (page_in s.parcel) p (chain_in s ino).blocks (subst (λ l. In p l) pages i) in
            ap (λ (l : List ℕ). length l) x.2 ∙ c.whole x.0 (In-right x.0 (chain_in s ino).index (chain_in s ino).blocks x.1);
      }

  -- and of one that is read
  read_had : (f : Shown) → open_kind s ino ≡ None → read_file s ino ≡ Some f → IsHad s ino
  read_had f none there =
      let i = find-In (λ (g : Shown). eqb g.ino ino) s.reads f there in
      let well = may.on.reads f i.0 in
      let bytes : body_had s ino ≡ f.body = body_had-read s ino f none there in
      let pages : pages_shown s ino ≡ map (λ (p : LentPage). p.page) f.blocks = pages_shown-lent s ino f none there in
      record {
        there = ap is_some (body_shown-read s ino f none there);
        body = ap (λ (b : List ℕ). length b) bytes ∙ body_sized f.kind desk.sizes.range f.body (body_at f.body) well.body;
        blocks = ap (λ (l : List (List ℕ)). length l) pages ∙ lent_count desk.sizes limits f well ∙ ap (λ (b : List ℕ). block_count (size_in b)) (sym bytes);
        few = subst (λ (l : List (List ℕ)). length l ≤ 8192) (sym pages) (lent_few desk.sizes limits f well);
        whole = λ p i. lent_whole desk.sizes limits f well p (subst (λ l. In p l) pages i);
      }

  -- a file that is taken
  pub had_served : (kind : GrantKind) → (kind ≡ Hold → ⊥) → serves s ino kind ≡ true → IsHad s ino
  had_served kind not_held served = by_kind (open_kind s ino) refl
    where
      by_read : (o : Option Shown) → open_kind s ino ≡ None → read_file s ino ≡ o → (k : GrantKind) → (k ≡ Hold → ⊥) → serves s ino k ≡ true → IsHad s ino
      by_read (Some f) none e k not_held served = read_had f none e
      by_read None none e Hold not_held served = absurd (not_held refl)
      by_read None none e Write not_held served = absurd (false≢true (sym (ap (λ (q : Option Kind). is_some q) none) ∙ served))
      by_read None none e Read not_held served = absurd (false≢true (sym (ap (λ (q : Option Kind). is_some q || is_some (read_file s ino)) none ∙ ap is_some e) ∙ served))

      by_kind : (o : Option Kind) → open_kind s ino ≡ o → IsHad s ino
      by_kind (Some k) e = open_had k e
      by_kind None e = by_read (read_file s ino) e refl kind not_held served
