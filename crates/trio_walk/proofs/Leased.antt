-- A session that takes a lease may walk on.
use Rattle.trio_walk.proofs.Words.{◌++◌, ◌<◌, ◌∙◌, ◌∷◌, ◌≡◌, Ask, Chain, Creds, DeskSeen, Directory, HoldParts, In, In-flat, In-left, In-map, In-right, Kind, LentFile, LibNo, List, MadeFile, MayWalk, Nodes, None, Option, Rights, SeenAfter, SeesOpen, SessionSeen, Shown, Sizes, Some, Told, [], ap, arith, body_in, body_in_slot, chain_in, eqb, every_number, file_numbers, files_out, find, find-In, flat_map, hold_numbers, in_hand, inl, ino_numbers, inr, length, lent_files, made_body, made_file, map, map-In, no_chain, open_kind, option_map, option_map_or, option_or, page_in, pages_in_hand, pages_looked, place_in, place_of, refl, slice_get, slice_get-In, slice_get-get_or, slice_index_or, slots_of, subst, sym, written_file, ℕ}
use Rattle.trio_session.proofs.Found.{find-none, find-position}
use Rattle.trio_walk.proofs.Opened.{open_seen, sees_same}

-- a desk after a call is the one before it, but for what is out
pub desk_after : (old new : DeskSeen) (ask : Ask) (told : Told) → SeenAfter old ask told new → new ≡ record old { out = new.out }
desk_after old new ask told seen =
    let desk : LibNo → Creds → Sizes → Rights → DeskSeen = λ l c z r. record { lib = l; creds = c; out = new.out; sizes = z; root = r } in
    ap (λ l. desk l new.creds new.sizes new.root) seen.lib
    ∙ ap (λ c. desk old.lib c new.sizes new.root) seen.creds
    ∙ ap (λ z. desk old.lib old.creds z new.root) seen.sizes
    ∙ ap (desk old.lib old.creds old.sizes) seen.root

-- the same things out, in the desk's words
module _ (desk : DeskSeen) (s : SessionSeen) (may : MayWalk desk s) where
  file_lent : (n : ℕ) → In n (file_numbers s.parcel.writes) → In n (map (λ (w : Shown). w.ino) desk.out.writes)
  file_lent n i =
      let f = map-In (λ (f : LentFile). f.stands.ino) n s.parcel.writes i in
      let j : In f.0.lent (lent_files s.parcel.writes) = In-map (λ (g : LentFile). g.lent) f.0 s.parcel.writes f.1 in
      subst (λ k. In k (map (λ (w : Shown). w.ino) desk.out.writes)) (sym (f.2 ∙ may.numbers f.0 f.1))
      (In-map (λ (w : Shown). w.ino) f.0.lent desk.out.writes (subst (λ l. In f.0.lent l) (sym may.on.out.writes) j))

  pub written_out : (n : ℕ) → In n (file_numbers s.parcel.writes) → In n (files_out desk.out)
  written_out n i =
      In-left n (map (λ (w : Shown). w.ino) desk.out.writes ++ map (λ (r : Shown). r.ino) desk.out.reads) (hold_numbers desk.out.holds)
      (In-left n (map (λ (w : Shown). w.ino) desk.out.writes) (map (λ (r : Shown). r.ino) desk.out.reads) (file_lent n i))

  pub read_out : (n : ℕ) → In n (map (λ (r : Shown). r.ino) s.reads) → In n (files_out desk.out)
  read_out n i =
      In-left n (map (λ (w : Shown). w.ino) desk.out.writes ++ map (λ (r : Shown). r.ino) desk.out.reads) (hold_numbers desk.out.holds)
      (In-right n (map (λ (w : Shown). w.ino) desk.out.writes) (map (λ (r : Shown). r.ino) desk.out.reads)
      (subst (λ (l : List Shown). In n (map (λ (r : Shown). r.ino) l)) (sym may.on.out.reads) i))

  pub held_out : (n : ℕ) → In n (hold_numbers s.parcel.holds) → In n (files_out desk.out)
  held_out n i =
      In-right n (map (λ (w : Shown). w.ino) desk.out.writes ++ map (λ (r : Shown). r.ino) desk.out.reads) (hold_numbers desk.out.holds)
      (subst (λ (l : List HoldParts). In n (hold_numbers l)) (sym may.on.out.holds) i)

-- a file that is open is one that was made, or one that is written
pub data IsOpened (s : SessionSeen) (n : ℕ) (kind : Kind) : Type 0 where
  ByMade : (m : MadeFile) → made_file s n ≡ Some m → m.kind ≡ kind → IsOpened s n kind
  ByLease : (f : LentFile) → made_file s n ≡ None → find (λ (g : LentFile). eqb g.stands.ino n) s.parcel.writes ≡ Some f → f.stands.kind ≡ kind → IsOpened s n kind

pub opened : (s : SessionSeen) (n : ℕ) (kind : Kind) → open_kind s n ≡ Some kind → IsOpened s n kind
opened s n kind e = by (made_file s n) refl
  where
    by_lease : (made_file s n ≡ None) → (o : Option LentFile) → find (λ (g : LentFile). eqb g.stands.ino n) s.parcel.writes ≡ o → option_map (λ (f : Shown). f.kind) (option_map (λ (f : LentFile). f.stands) o) ≡ Some kind → IsOpened s n kind
    by_lease none None h k = (let wrong : None ≡ Some kind = k in absurd (cc wrong))
    by_lease none (Some f) h k = (let same : Some f.stands.kind ≡ Some kind = k in ByLease f none h (cc same))

    by : (o : Option MadeFile) → made_file s n ≡ o → IsOpened s n kind
    by (Some m) h =
        let same : Some m.kind ≡ Some kind = sym (ap (λ o. option_or (option_map (λ (x : MadeFile). x.kind) o) (option_map (λ (f : Shown). f.kind) (written_file s n))) h) ∙ e in
        ByMade m h (cc same)
    by None h =
        by_lease h (find (λ (g : LentFile). eqb g.stands.ino n) s.parcel.writes) refl
        (sym (ap (λ o. option_or (option_map (λ (x : MadeFile). x.kind) o) (option_map (λ (f : Shown). f.kind) (written_file s n))) h) ∙ e)

-- the pages of one chain are looked in
module _ (s : SessionSeen) (page : ℕ) where
  made_page : (m : MadeFile) → In m s.made → In m.page (pages_looked s)
  made_page m i = In-right m.page (flat_map (λ (c : Chain). c.blocks) (s.chains ++ map (λ (x : MadeFile). x.chain) s.made)) (map (λ (x : MadeFile). x.page) s.made) (In-map (λ (x : MadeFile). x.page) m s.made i)

  made_block : (m : MadeFile) → In m s.made → In page m.chain.blocks → In page (pages_looked s)
  made_block m i j =
      In-left page (flat_map (λ (c : Chain). c.blocks) (s.chains ++ map (λ (x : MadeFile). x.chain) s.made)) (map (λ (x : MadeFile). x.page) s.made)
      (In-flat (λ (c : Chain). c.blocks) m.chain page (s.chains ++ map (λ (x : MadeFile). x.chain) s.made)
      (In-right m.chain s.chains (map (λ (x : MadeFile). x.chain) s.made) (In-map (λ (x : MadeFile). x.chain) m s.made i)) j)

  chain_block : (i : ℕ) → i < length s.chains → In page (slice_index_or s.chains i no_chain).blocks → In page (pages_looked s)
  chain_block i lt j =
      let c : Chain = slice_index_or s.chains i no_chain in
      In-left page (flat_map (λ (x : Chain). x.blocks) (s.chains ++ map (λ (x : MadeFile). x.chain) s.made)) (map (λ (x : MadeFile). x.page) s.made)
      (In-flat (λ (x : Chain). x.blocks) c page (s.chains ++ map (λ (x : MadeFile). x.chain) s.made)
      (In-left c s.chains (map (λ (x : MadeFile). x.chain) s.made) (slice_get-In s.chains i c (slice_get-get_or s.chains i no_chain lt))) j)

-- ---- what more leaves of open files

-- All that a session has of open files is there in one that has more.
pub record IsMore (s s1 : SessionSeen) : Type 0 where
  pub made : s1.made ≡ s.made
  pub written : (n : ℕ) (f : LentFile) → find (λ (g : LentFile). eqb g.stands.ino n) s.parcel.writes ≡ Some f → find (λ (g : LentFile). eqb g.stands.ino n) s1.parcel.writes ≡ Some f
  pub place : (n i : ℕ) → place_in s n ≡ Some i → place_in s1 n ≡ Some i
  pub chain : (i : ℕ) → i < length s.chains → slice_index_or s1.chains i no_chain ≡ slice_index_or s.chains i no_chain
  pub page : (n : ℕ) → In n (pages_in_hand (in_hand s)) → page_in s1.parcel n ≡ page_in s.parcel n

pub record StaysOpen (s s1 : SessionSeen) (n : ℕ) (kind' : Kind) : Type 0 where
  pub kind : open_kind s1 n ≡ Some kind'
  pub body : body_in s1 n ≡ body_in s n
  pub pages : map (page_in s1.parcel) (chain_in s1 n).blocks ≡ map (page_in s.parcel) (chain_in s n).blocks

module _ (desk : DeskSeen) (s : SessionSeen) (may : MayWalk desk s) (s1 : SessionSeen) (more : IsMore s s1) where
  same_pages : (ns : List ℕ) → ((p : ℕ) → In p ns → In p (pages_looked s)) → map (page_in s1.parcel) ns ≡ map (page_in s.parcel) ns
  same_pages [] own = refl
  same_pages (n ∷ ns) own = ap (λ x. x ∷ map (page_in s1.parcel) ns) (more.page n (may.own n (own n (inl refl)))) ∙ ap (λ l. page_in s.parcel n ∷ l) (same_pages ns (λ p i. own p (inr i)))

  kind_by : (x : SessionSeen) (n : ℕ) (o : Option MadeFile) → made_file x n ≡ o → open_kind x n ≡ option_or (option_map (λ (y : MadeFile). y.kind) o) (option_map (λ (f : Shown). f.kind) (written_file x n))
  kind_by x n o e = ap (λ p. option_or (option_map (λ (y : MadeFile). y.kind) p) (option_map (λ (f : Shown). f.kind) (written_file x n))) e

  body_by : (x : SessionSeen) (n : ℕ) (o : Option MadeFile) → made_file x n ≡ o → body_in x n ≡ option_map_or (made_body x) o (option_map_or (λ (f : Shown). f.body) (written_file x n) [])
  body_by x n o e = ap (λ p. option_map_or (made_body x) p (option_map_or (λ (f : Shown). f.body) (written_file x n) [])) e

  chain_by : (x : SessionSeen) (n : ℕ) (o : Option MadeFile) → made_file x n ≡ o → chain_in x n ≡ option_map_or (λ (y : MadeFile). y.chain) o (option_map_or (λ i. slice_index_or x.chains i no_chain) (place_in x n) no_chain)
  chain_by x n o e = ap (λ p. option_map_or (λ (y : MadeFile). y.chain) p (option_map_or (λ i. slice_index_or x.chains i no_chain) (place_in x n) no_chain)) e

  pages_by : (n : ℕ) (c : Chain) → chain_in s n ≡ c → chain_in s1 n ≡ c → ((p : ℕ) → In p c.blocks → In p (pages_looked s)) → map (page_in s1.parcel) (chain_in s1 n).blocks ≡ map (page_in s.parcel) (chain_in s n).blocks
  pages_by n c e e1 own =
      ap (λ (x : Chain). map (page_in s1.parcel) x.blocks) e1 ∙ same_pages c.blocks own ∙ sym (ap (λ (x : Chain). map (page_in s.parcel) x.blocks) e)

  made_again : (n : ℕ) (o : Option MadeFile) → made_file s n ≡ o → made_file s1 n ≡ o
  made_again n o e = ap (λ l. find (λ (m : MadeFile). eqb m.ino n) l) more.made ∙ e

  by_made : (n : ℕ) (kind : Kind) (m : MadeFile) → made_file s n ≡ Some m → m.kind ≡ kind → StaysOpen s s1 n kind
  by_made n kind m h k =
      let among : In m s.made = (find-In (λ (x : MadeFile). eqb x.ino n) s.made m h).0 in
      let h1 : made_file s1 n ≡ Some m = made_again n (Some m) h in
      record {
        kind = kind_by s1 n (Some m) h1 ∙ ap Some k;
        body =
            body_by s1 n (Some m) h1
            ∙ ap (body_in_slot m.slot) (more.page m.page (may.own m.page (made_page s m.page m among)))
            ∙ sym (body_by s n (Some m) h);
        pages = pages_by n m.chain (chain_by s n (Some m) h) (chain_by s1 n (Some m) h1) (λ p j. made_block s p m among j);
      }

  by_lease : (n : ℕ) (kind : Kind) (f : LentFile) → made_file s n ≡ None → find (λ (g : LentFile). eqb g.stands.ino n) s.parcel.writes ≡ Some f → f.stands.kind ≡ kind → StaysOpen s s1 n kind
  by_lease n kind f none h k = at (place_in s n) refl
    where
      h1 : find (λ (g : LentFile). eqb g.stands.ino n) s1.parcel.writes ≡ Some f
      h1 = more.written n f h

      none1 : made_file s1 n ≡ None
      none1 = made_again n None none

      at : (o : Option ℕ) → place_in s n ≡ o → StaysOpen s s1 n kind
      at None e = absurd (let wrong : None ≡ Some f = sym (find-none (λ (g : LentFile). eqb g.stands.ino n) s.parcel.writes e) ∙ h in cc wrong)
      at (Some i) e =
          let lt : i < length s.chains = (let w = (find-position (λ (g : LentFile). eqb g.stands.ino n) s.parcel.writes i e).1 in let b = may.beside in omega arith) in
          let c : Chain = slice_index_or s.chains i no_chain in
          let e1 : place_in s1 n ≡ Some i = more.place n i e in
          record {
            kind = kind_by s1 n None none1 ∙ ap (λ o. option_map (λ (x : Shown). x.kind) (option_map (λ (g : LentFile). g.stands) o)) h1 ∙ ap Some k;
            body =
                body_by s1 n None none1 ∙ ap (λ o. option_map_or (λ (x : Shown). x.body) (option_map (λ (g : LentFile). g.stands) o) []) h1
                ∙ sym (body_by s n None none ∙ ap (λ o. option_map_or (λ (x : Shown). x.body) (option_map (λ (g : LentFile). g.stands) o) []) h);
            pages =
                pages_by n c (chain_by s n None none ∙ ap (λ o. option_map_or (λ j. slice_index_or s.chains j no_chain) o no_chain) e)
                (chain_by s1 n None none1 ∙ ap (λ o. option_map_or (λ j. slice_index_or s1.chains j no_chain) o no_chain) e1 ∙ more.chain i lt)
                (λ p j. chain_block s p i lt j);
          }

  pub stays_open : (n : ℕ) (kind : Kind) → open_kind s n ≡ Some kind → StaysOpen s s1 n kind
  stays_open n kind e = by (opened s n kind e)
    where
      by : IsOpened s n kind → StaysOpen s s1 n kind
      by (ByMade m h k) = by_made n kind m h k
      by (ByLease f none h k) = by_lease n kind f none h k

  -- what is seen in an open directory is seen in it still
  pub sees_still : (d : ℕ) → open_kind s d ≡ Some Directory → (now : Nodes) → ((n : ℕ) → In n (ino_numbers s1.parcel.inodes) → In n (ino_numbers s.parcel.inodes)) → SeesOpen s d now → SeesOpen s1 d now
  sees_still d e now numbers o =
      let st = stays_open d Directory e in
      let a = open_seen s d e in
      let b = open_seen s1 d st.kind in
      sees_same s s1 d (map (page_in s.parcel) (chain_in s d).blocks) a
      (record {
        place = λ name. b.place name ∙ ap (λ p. place_of (Some Directory) (slots_of every_number p) name) st.pages;
        block = λ k. b.block k ∙ ap (λ p. slice_get p k) st.pages;
      }) now st.body more.made numbers o
