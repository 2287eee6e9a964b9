-- The end of a refused bundle keeps what holds of a state.
use Rattle.trio_laws.proofs.Words.{AgreeOn, Bundle, Core, Ends, FileRead, GivenTo, HasLentBlocks, Hold, HoldStands, Image, In, In-flat, In-left, In-right, IsFit, Kept, Kind, LentIsListed, None, OpenGrant, Pages, Sheet, Some, State, Verifies, Write, Written, ap, arith, cases_Bool, checkpoints_of, covered, covers_blocks, false, flat_map, free_unlisted, guard_in, guard_of, has_parent_grant, inl, inr, is_core, is_directory, is_in_bundle, is_out, is_some, length, length-with_pages, lent_part, map-In, page_from, page_of, page_same, page_there, pages_are, pages_read, plain, refl, refused_image, row_at, settled, settled_body, sheet_numbers, slice_get, slice_index, some_of, sound_parts, subst, survey, sym, true, uncovered, with_other, with_pages, with_pages_absent, with_pages_apart, ℕ, ◌++◌, ◌+◌, ◌∙◌, ◌≡◌, ◌⊎◌}
use Rattle.trio_laws.proofs.Agreeing.{verifies_still, lent_still, body_still}
use Rattle.trio_laws.proofs.Bundles.{Closed, outside_unheld, in_numbers}
use Rattle.trio_laws.proofs.Ended.{grant_before, apart_then, checkpoints_then, write_in_bundle, parent_then, outs_then, numbers_then, pages_placed_then, numbers_placed_then, absent_then}
use Rattle.trio_surveys.proofs.Sheets.{with_pages_from}
use Rattle.trio_laws.proofs.Checkpoints.{guarded_covered}
use Rattle.trio_laws.proofs.PutBack.{bare as none_covered}
use Rattle.trio_laws.proofs.StateFacts.{lent_by, tables, uncovered_kind}
use Rattle.trio_laws.proofs.Uncovered.{uncovered_from, uncovered_handed, In-uncovered}
use Rattle.trio_laws.proofs.WriteGrant.{read_cases, block_unread, uncovers}

-- a page that is read is listed
pub read_listed : (kind : Kind) (f : FileRead) (p : ℕ) → In p (pages_read kind f) → In p (f.chain.index ++ f.chain.blocks)
read_listed kind f p i = search (arith, read_cases, In-left, In-right)

-- what counts of a grant goes with its lent part
pub lent_like : (image : Image) (g h : OpenGrant) → lent_part g ≡ lent_part h → LentIsListed image h → LentIsListed image g
lent_like image g h e l = search arith

module _ (s s' : State) (k : Kept s) (lib : ℕ) (b : Bundle) (given : GivenTo s lib b) (closed : Closed s lib b) (e : Ends s lib b (refused_image (settled s) b) s') where
  abbrev pub core : Core
  core = (settled s).core

  abbrev pub pages : Pages
  pages = with_pages (uncovered (settled s) b ++ b.pages) (settled s).core.pages

  abbrev after : Image
  after = refused_image (settled s) b

  block_uncovered : (w : Written) (p : ℕ) → In w b.writes → covers_blocks w.kind (guard_of (settled s) w.ino) ≡ false → In p (sheet_numbers w.blocks) → In p (sheet_numbers (uncovered (settled s) b ++ b.pages))
  block_uncovered w p i bare a =
      let r = map-In (λ (x : Sheet). x.page) p w.blocks a in
      in_numbers (uncovered (settled s) b ++ b.pages) r.0 p (In-left r.0 (uncovered (settled s) b) b.pages (In-uncovered s k lib b given w r.0 i bare r.1)) r.2

  page_uncovered : (p : ℕ) → In p (sheet_numbers b.pages) → In p (sheet_numbers (uncovered (settled s) b ++ b.pages))
  page_uncovered p a = search (arith, map-In, in_numbers, In-right)

  pub agree : AgreeOn core (with_other core pages) (survey core plain)
  agree m f p i read a =
      page_same core pages p (with_pages_apart (uncovered (settled s) b ++ b.pages) core.pages p
      (λ j.
      let r = map-In (λ (x : Sheet). x.page) p (uncovered (settled s) b ++ b.pages) j in
      elim (uncovered_from s k lib b given r.0 r.1) [
        | inl handed ↦
            let o = given.pages p (in_numbers b.pages r.0 p handed r.2) in
            let z : slice_index s.home.owners p ≡ 0 = k.out_free p (ap is_some o) in
            free_unlisted core plain k.fit k.verifies.sound (settled s) (tables s k) p z m i (subst (λ l. In p l) (sym (pages_are core m f read)) (read_listed m.kind f p a))
        | inr w ↦
            let g = given.writes w.0 w.1 in
            let l = k.lent g.grant g.is_open g.kind in
            let block : In p l.file.chain.blocks = subst (λ x. In p x) (g.blocks ∙ l.blocks) (in_numbers w.0.blocks r.0 p w.3 r.2) in
            block_unread core (survey core plain) l.met m l.file f p (sound_parts core plain k.verifies.sound).paged l.stands l.read block (ap is_directory (l.of ∙ g.of) ∙ (uncovered_kind w.0.kind (guard_of (settled s) w.0.ino) w.2).0) i read a
      ]))

  pub fit' : IsFit (with_other core pages)
  fit' = record {
    full = λ p bytes h.
        let t = page_there (with_other core pages) p bytes h in
        elim (with_pages_from (uncovered (settled s) b ++ b.pages) core.pages p bytes t.1) [
          | inl r ↦ ap length (sym r.2) ∙ given.full r.0 (uncovered_handed s k lib b given r.0 r.1)
          | inr was ↦ k.fit.full p bytes (page_from core p bytes t.0 was)
        ];
    long = (let l = length-with_pages (uncovered (settled s) b ++ b.pages) core.pages in let f = k.fit.long in omega (arith, l, f));
    numbers = k.fit.numbers;
  }

  rows_home : (n : ℕ) → row_at s'.home n ≡ row_at s.home n
  rows_home n = ap (λ (i : Image). row_at i n) e.settles

  live_then : (g : OpenGrant) → In g s'.open_grants → is_some (row_at s'.home g.ino) ≡ true
  live_then g i =
      let x = grant_before s s' k lib b given after e g i in
      ap is_some (rows_home g.ino) ∙ ap (λ (y : OpenGrant). is_some (row_at s.home y.ino)) x.3 ∙ k.live x.0 x.1

  -- the body that a grant lent which stays is settled still
  body_then : (g : OpenGrant) → In g s'.open_grants → g.body ≡ settled_body (settled s') g.ino
  body_then g i =
      let x = grant_before s s' k lib b given after e g i in
      let h : OpenGrant = x.0 in
      let r = some_of (row_at s.home h.ino) (k.live h x.1) in
      ap (λ (y : OpenGrant). y.body) x.3
      ∙ k.bodies h x.1
      ∙ sym (body_still (settled s) pages k.fit fit' k.verifies agree h.ino r.0 r.1)
      ∙ ap (λ (y : OpenGrant). settled_body after y.ino) (sym x.3)
      ∙ ap (λ (i : Image). settled_body i g.ino) (sym e.settles)

  held_then : (g : OpenGrant) → In g s'.open_grants → g.kind ≡ Hold → HoldStands s' g
  held_then g i kind =
      let x = grant_before s s' k lib b given after e g i in
      let h : OpenGrant = x.0 in
      let hk : h.kind ≡ Hold = ap (λ (y : OpenGrant). y.kind) (sym x.3) ∙ kind in
      let r = some_of (row_at s.home h.ino) (k.live h x.1) in
      let was = k.held h x.1 hk in
      let has : has_parent_grant s h.lib (Some r.0) ≡ true = ap (has_parent_grant s h.lib) (sym r.1) ∙ was in
      let p = parent_then s s' k lib b given after e closed h g r.0 r.0 x.1 hk x.2 r.1 (outside_unheld s k lib b given h x.1 x.2) x.3 refl has in
      let row : row_at s'.home g.ino ≡ Some r.0 = rows_home g.ino ∙ ap (λ (y : OpenGrant). row_at s.home y.ino) x.3 ∙ r.1 in
      ap (has_parent_grant s' g.lib) row ∙ p

  lent_listed : (g : OpenGrant) → In g s'.open_grants → g.kind ≡ Write → LentIsListed after g
  lent_listed g i kind =
      let x = grant_before s s' k lib b given after e g i in
      let hk : x.0.kind ≡ Write = ap (λ (y : OpenGrant). y.kind) (sym x.3) ∙ kind in
      lent_like after g x.0 x.3 (lent_still (settled s) pages k.fit fit' k.verifies agree x.0 (k.lent x.0 x.1 hk))

  -- a covered page is as it was
  pub covered_back : (p : ℕ) → In p (sheet_numbers (checkpoints_of s.open_grants)) → page_of (with_other core pages) p ≡ page_of core p
  covered_back p i =
      page_same core pages p (with_pages_apart (uncovered (settled s) b ++ b.pages) core.pages p (λ handed. none_covered s k lib b given p handed i))

  -- the blocks of a guarded file that stays out are settled as they were lent
  guarded_then : (g : OpenGrant) → In g s'.open_grants → g.kind ≡ Write → is_directory g.of ≡ false → guard_in g.body ≡ true → HasLentBlocks (settled s') g
  guarded_then g i w d t x a =
      let y = grant_before s s' k lib b given after e g i in
      let h : OpenGrant = y.0 in
      let hk : h.kind ≡ Write = ap (λ (z : OpenGrant). z.kind) (sym y.3) ∙ w in
      let a' : In x h.blocks = subst (λ bs. In x bs) (ap (λ (z : OpenGrant). z.blocks) y.3) a in
      let t' : guard_in h.body ≡ true = ap (λ (z : OpenGrant). guard_in z.body) (sym y.3) ∙ t in
      ap (λ (im : Image). page_of im.core x.page) e.settles
      ∙ covered_back x.page (guarded_covered s k h x y.1 hk t' a')
      ∙ k.guarded h y.1 hk (ap (λ (z : OpenGrant). is_directory z.of) (sym y.3) ∙ d) t' x a'

  absent_after : (p : ℕ) → is_core core.range p ≡ true → slice_get after.core.pages p ≡ Some None → ((g : OpenGrant) × In g s.open_grants × (is_in_bundle lib b g ≡ false) × (g.kind ≡ Write) × In p (sheet_numbers (g.index ++ g.blocks))) ⊎ ((is_out s.pages_out p ≡ true) × (In p (sheet_numbers b.pages) → ⊥))
  absent_after p c gone =
      let w = with_pages_absent (uncovered (settled s) b ++ b.pages) core.pages p gone in
      let v = with_pages_absent (flat_map (λ g. g.checkpoint) s.open_grants) s.home.core.pages p w.1 in
      elim (k.absent p v.1 c) [
        | inl lent ↦
            let q = lent_by s.open_grants p lent in
            let g : OpenGrant = q.0 in
            let kind : g.kind ≡ Write = q.2 in
            let mine = q.3 in
            elim (cases_Bool (is_in_bundle lib b g)) [
              | inr out ↦ inl (g, q.1, out, kind, mine)
              | inl in' ↦
                  let x = write_in_bundle s s' k lib b given after e g q.1 kind in' in
                  let y = given.writes x.0 x.1 in
                  let bare : In p (sheet_numbers (covered Write g.of (guard_in g.body) g.index g.blocks)) → ⊥ =
                  λ j.
                  let j' : In p (sheet_numbers g.checkpoint) = subst (λ l. In p l) (ap (λ t. sheet_numbers (covered t g.of (guard_in g.body) g.index g.blocks)) (sym kind) ∙ sym (k.checkpoints g q.1)) j in
                  let z = map-In (λ (x : Sheet). x.page) p g.checkpoint j' in
                  v.0 (in_numbers (flat_map (λ g. g.checkpoint) s.open_grants) z.0 p (In-flat (λ (g : OpenGrant). g.checkpoint) g z.0 s.open_grants q.1 z.1) z.2) in
                  let u = uncovers g.of (guard_in g.body) g.index g.blocks p mine bare in
                  let of : x.0.kind ≡ g.of = sym y.of ∙ ap (λ (z : OpenGrant). z.of) x.2 in
                  let guarded : guard_of (settled s) x.0.ino ≡ guard_in g.body =
                  ap (guard_of (settled s)) (sym y.ino ∙ ap (λ (z : OpenGrant). z.ino) x.2) ∙ ap guard_in (sym (k.bodies g q.1)) in
                  let uncovered' : covers_blocks x.0.kind (guard_of (settled s) x.0.ino) ≡ false =
                  ap (λ t. covers_blocks t (guard_of (settled s) x.0.ino)) of ∙ ap (covers_blocks g.of) guarded ∙ u.1 in
                  let block : In p (sheet_numbers x.0.blocks) = subst (λ l. In p l) (ap (λ (z : OpenGrant). sheet_numbers z.blocks) (sym x.2) ∙ sym y.blocks) u.0 in
                  absurd (w.0 (block_uncovered x.0 p x.1 uncovered' block))
            ]
        | inr out ↦ inr (out, λ j. w.0 (page_uncovered p j))
      ]

  pub refused_kept : Kept s'
  refused_kept = record {
    fit = (let P : Image → Type 0 = λ i. IsFit i.core in subst P (sym e.settles) fit');
    verifies = (let P : Image → Type 0 = λ i. Verifies i in subst P (sym e.settles) (verifies_still (settled s) pages k.fit fit' k.verifies agree));
    live = live_then;
    apart = apart_then s s' k lib b given after e;
    bodies = body_then;
    held = held_then;
    lent = λ g i w. (let P : Image → Type 0 = λ x. LentIsListed x g in subst P (sym e.settles) (lent_listed g i w));
    checkpoints = checkpoints_then s s' k lib b given after e;
    guarded = guarded_then;
    absent = λ p gone c.
        let c' : is_core core.range p ≡ true = ap (λ (i : Image). is_core i.core.range p) (sym e.settles) ∙ c in
        absent_then s s' k lib b given after e p gone (absent_after p c');
    pages_placed = pages_placed_then s s' k lib b given after e ∙ ap (λ (i : Image). i.core.range.end) (sym e.settles);
    out_free = λ p out. ap (λ (i : Image). slice_index i.owners p) e.settles ∙ k.out_free p (outs_then s s' k lib b given after e p out).0;
    numbers_placed = numbers_placed_then s s' k lib b given after e ∙ ap (λ (i : Image). i.core.inodes + 1) (sym e.settles);
    numbers_free = λ n out. rows_home n ∙ k.numbers_free n (numbers_then s s' k lib b given after e n out).0;
  }
