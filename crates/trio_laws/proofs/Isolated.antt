-- What an accepted bundle leaves of the files of others.
use Rattle.trio_laws.proofs.Words.{Bool, Bundle, Core, Creds, FileRead, GivenTo, Image, In, In-cases, In-is_among, In-left, In-right, IsFit, Kept, Kind, List, Listed, Met, MetAt, None, Ok, Option, Pick, Result, Row, Some, State, [], accepted_verifies, all_listed, ap, arith, block_count, body_of, both, both_ways, chain_follows, child_from, child_placed, children, cond, entries_of, entries_of_kind, false, file_of, file_put, fit_put, flat_map-In, gathered, index_apart, index_count, inl, inr, is_accepted, is_among, is_directory, is_sound, map, next, option_map, page_of, page_owner, page_put_is, pages_are, pages_of, picked_entry, plain, plain_pages, proposed, proposed_pick, put_on, reads_from, reads_to, refl, row_at, row_at_is, row_met, row_of, settled, settled_body, settled_body_met, sound_parts, subst, survey, survey_put, sym, true, ℕ, ◌++◌, ◌∙◌, ◌∷◌, ◌≡◌, ◌⊎◌}
use Rattle.trio_laws.specs.Laws.{entry_only, IsUntouched, OthersUntouched}
use Rattle.trio_surveys.proofs.Putting.{put_on-none}
use Rattle.trio_laws.proofs.StateFacts.{tables, live_met}
use Rattle.trio_laws.proofs.Bundles.{finds_unwritten, Unwritten, unwritten_apart, page_kept}
use Rattle.trio_laws.proofs.Survivors.{fit_now, sound_now, stays}

met_same : (x y : Met) → x.ino ≡ y.ino → x.kind ≡ y.kind → x.parent ≡ y.parent → x.page ≡ y.page → x.slot ≡ y.slot → x.body ≡ y.body → x ≡ y
met_same x y ino kind parent page slot body = search arith

gathered_same : {X Y E : Type 0} (f g : X → Result (List Y) E) (xs : List X) → ((x : X) → In x xs → g x ≡ f x) → gathered g xs ≡ gathered f xs
gathered_same f g [] h = refl
gathered_same f g (x ∷ xs) h = ap (λ r. both r (gathered g xs)) (h x (inl refl)) ∙ ap (both (f x)) (gathered_same f g xs (λ y i. h y (inr i)))

entries_same : (core other : Core) → other.inodes ≡ core.inodes → (kind : Kind) (blocks : List ℕ) → ((p : ℕ) → In p blocks → page_of other p ≡ page_of core p) → entries_of_kind other kind blocks ≡ entries_of_kind core kind blocks
entries_same core other inodes kind blocks h = search (arith, gathered_same)

-- a file reads the same in another core where its pages are the same
pub same_file : (core other : Core) (m : Met) (f : FileRead) → other.range ≡ core.range → other.inodes ≡ core.inodes → file_of core m ≡ Ok f → ((p : ℕ) → In p (f.chain.index ++ f.chain.blocks) → page_of other p ≡ page_of core p) → file_of other m ≡ Ok f
same_file core other m f range inodes e h =
    let r = reads_from core m f e in
    reads_to other m f (record {
      body = ap (λ g. body_of m.kind g m.body) range ∙ r.body;
      chain = chain_follows core other range (index_count (block_count f.body.size)) (block_count f.body.size) f.body.head f.chain r.chain (λ p i. h p (In-left p f.chain.index f.chain.blocks i));
      entries = entries_same core other inodes m.kind f.chain.blocks (λ p i. h p (In-right p f.chain.index f.chain.blocks i)) ∙ r.entries;
    })

pub picked_only : (pick : Pick) (d : ℕ) (ls : List Listed) → map entry_only (map (picked_entry pick d) ls) ≡ map entry_only ls
picked_only pick d [] = refl
picked_only pick d (l ∷ ls) = ap (λ es. entry_only l ∷ es) (picked_only pick d ls)

plain_cases : (kind : Kind) (f : FileRead) (p : ℕ) → In p (plain_pages kind f) → In p f.chain.index ⊎ (In p f.chain.blocks × (is_directory kind ≡ false))
plain_cases kind f p i = by (is_directory kind) refl i
  where
    by : (t : Bool) → is_directory kind ≡ t → In p (cond t f.chain.index (f.chain.index ++ f.chain.blocks)) → In p f.chain.index ⊎ (In p f.chain.blocks × (is_directory kind ≡ false))
    by true e i = inl i
    by false e i = elim (In-cases p f.chain.index f.chain.blocks i) [ inl a ↦ inl a | inr b ↦ inr (b, e) ]

pub plain_listed : (kind : Kind) (f : FileRead) (p : ℕ) → In p (plain_pages kind f) → In p (f.chain.index ++ f.chain.blocks)
plain_listed kind f p i = elim (plain_cases kind f p i) [ inl a ↦ In-left p f.chain.index f.chain.blocks a | inr b ↦ In-right p f.chain.index f.chain.blocks b.0 ]

-- a block of what is no directory has no slots
pub plain_block : (kind : Kind) (f : FileRead) (p : ℕ) → is_directory kind ≡ false → In p f.chain.blocks → In p (plain_pages kind f)
plain_block kind f p e i =
    subst (λ t. In p (cond t f.chain.index (f.chain.index ++ f.chain.blocks))) (sym e) (In-right p f.chain.index f.chain.blocks i)

-- a file that lists entries is a directory
pub plain_empty : (core : Core) (kind : Kind) (blocks : List ℕ) (es : List Listed) (l : Listed) → is_directory kind ≡ false → entries_of_kind core kind blocks ≡ Ok es → In l es → ⊥
plain_empty core kind blocks es l e read i =
    let empty : Ok [] ≡ Ok es = sym (ap (λ t. cond t (entries_of core blocks) (Ok [])) e) ∙ read in
    let none : [] ≡ es = cc empty in
    subst (λ x. In l x) (sym none) i

-- no body stands on a page without slots
pub bare_page : (core : Core) (pick : Pick) → is_sound core pick ≡ true → (m : Met) (f : FileRead) (p : ℕ) → In m (survey core pick) → file_of core m ≡ Ok f → In p (plain_pages m.kind f) → (x : Met) → In x (all_listed core pick) → x.page ≡ p → ⊥
bare_page core pick sound m f p i read bare x j on =
    let parts = sound_parts core pick sound in
    let r = flat_map-In (children core pick) x (survey core pick) j in
    let k = child_from core pick r.0 x r.2 in
    let pl = child_placed core pick r.0 x k in
    let at : k.entry.page ≡ p = sym (ap (λ (w : Met). w.page) k.is) ∙ on in
    let block : In p k.file.chain.blocks = subst (λ n. In n k.file.chain.blocks) at pl.block in
    elim (plain_cases m.kind f p bare) [
      | inl index ↦ index_apart core (survey core pick) m r.0 f k.file p parts.paged i r.1 read k.read index block
      | inr own ↦
          let mine : In p (pages_of core m) = subst (λ l. In p l) (sym (pages_are core m f read)) (In-right p f.chain.index f.chain.blocks own.0) in
          let theirs : In p (pages_of core r.0) = subst (λ l. In p l) (sym (pages_are core r.0 k.file k.read)) (In-right p k.file.chain.index k.file.chain.blocks block) in
          let same : r.0 ≡ m = page_owner core (survey core pick) r.0 m p parts.paged r.1 i theirs mine in
          plain_empty core r.0.kind k.file.chain.blocks k.file.entries k.entry (ap (λ (w : Met). is_directory w.kind) same ∙ own.1) (reads_from core r.0 k.file k.read).entries k.listed
    ]

pub put_none : (p : ℕ) (ms : List Met) (o : Option (List ℕ)) → ((x : Met) → In x ms → x.page ≡ p → ⊥) → option_map (put_on p ms) o ≡ o
put_none p ms None h = refl
put_none p ms (Some bytes) h = ap Some (put_on-none p ms bytes h)

module _ (s : State) (lib : ℕ) (creds : Creds) (b : Bundle) (n : ℕ) (r : Row) (k : Kept s) (given : GivenTo s lib b) (accepted : is_accepted (settled s) creds b ≡ true) (row : row_at s.home n ≡ Some r) (unheld : In n b.holds → ⊥) (un : Unwritten b n) where
  abbrev core : Core
  core = proposed (settled s) b

  abbrev pick : Pick
  pick = proposed_pick (settled s) b

  abbrev after : Image
  after = next (settled s) b

  fit : IsFit core
  fit = fit_now s k lib creds b given accepted

  sound : is_sound core pick ≡ true
  sound = sound_now s k lib creds b given accepted

  was : MetAt (settled s).core plain n r
  was = live_met s k n r row

  page_stays : (p : ℕ) → In p (pages_of (settled s).core was.met) → page_of core p ≡ page_of (settled s).core p
  page_stays p a = page_kept s k lib b given p (λ c. unwritten_apart s k lib b given was.met p was.stands (λ w i e. un w i (e ∙ was.number)) a c)

  read_now : file_of core was.met ≡ Ok was.file
  read_now = search (arith, same_file, was, page_stays, pages_are)

  stands_now : In was.met (survey core pick)
  stands_now =
      let st = stays s k lib creds b given accepted n r row unheld un in
      let body : st.met.body ≡ was.met.body = st.body ∙ ap (settled_body (settled s)) (sym was.number) ∙ settled_body_met (settled s) was.met k.fit k.verifies.sound (tables s k) was.stands in
      let same : st.met ≡ was.met =
      met_same st.met was.met (st.number ∙ sym was.number) (ap (λ (x : Row). x.kind) (sym st.row) ∙ ap (λ (x : Row). x.kind) was.row) (ap (λ (x : Row). x.parent) (sym st.row) ∙ ap (λ (x : Row). x.parent) was.row) (ap (λ (x : Row). x.page) (sym st.row) ∙ ap (λ (x : Row). x.page) was.row) (ap (λ (x : Row). x.slot) (sym st.row) ∙ ap (λ (x : Row). x.slot) was.row) body in
      subst (λ m. In m (survey core pick)) same st.stands

  pages_now : (p : ℕ) → In p (plain_pages was.met.kind was.file) → page_of after.core p ≡ page_of (settled s).core p
  pages_now p i =
      page_put_is core pick fit sound p
      ∙ put_none p (all_listed core pick) (page_of core p) (bare_page core pick sound was.met was.file p stands_now read_now i)
      ∙ page_stays p (subst (λ l. In p l) (sym (pages_are (settled s).core was.met was.file was.read)) (plain_listed was.met.kind was.file p i))

  pub untouched : IsUntouched (settled s) after n
  untouched =
      let v = accepted_verifies (settled s) creds b fit accepted in
      let there : In was.met (survey after.core plain) = subst (λ l. In was.met l) (sym (survey_put core pick fit sound)) stands_now in
      let now = settled_body_met after was.met (fit_put core pick fit sound) v.sound (record { rows = v.rows; owners = v.owners }) there in
      let before = settled_body_met (settled s) was.met k.fit k.verifies.sound (tables s k) was.stands in
      record {
        met = was.met;
        file_was = was.file;
        file_is = record was.file { entries = map (picked_entry pick was.met.ino) was.file.entries };
        number = was.number;
        stood = was.stands;
        stands = there;
        read_was = was.read;
        read_is = file_put core pick fit sound was.met was.file stands_now read_now;
        body = refl;
        chain = refl;
        pages = pages_now;
        entries = picked_only pick was.met.ino was.file.entries;
        settled_bodies = ap (settled_body after) (sym was.number) ∙ now ∙ sym before ∙ ap (settled_body (settled s)) was.number;
        row =
            row_at_is core pick fit sound after (record { rows = refl; owners = refl }) n
            ∙ ap (λ i. row_of core (survey core pick) i) (sym was.number)
            ∙ row_met core pick fit sound was.met was.file stands_now read_now
            ∙ ap Some (sym was.row)
            ∙ sym row;
      }

pub others_untouched : OthersUntouched
others_untouched s lib creds b n r k given accepted row unheld un =
    untouched s lib creds b n r k given accepted row (λ j. both_ways (is_among n b.holds) unheld (In-is_among n b.holds j)) (finds_unwritten b n un)
