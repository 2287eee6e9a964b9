-- A growth of one of a session's files: what it keeps of the session, and what the session shows then.
use Rattle.trio_session.proofs.Words.{◌%◌, ◌*◌, ◌++◌, ◌+◌, ◌-◌, ◌<◌, ◌∙◌, ◌≡◌, ◌≤◌, AreDirs, AreLaid, AreMade, Bool, Chain, Directory, FilePlace, GrowDone, In, IndexedDir, Inside, IsOne, IsRelaid, IsThere, Kind, Laid, List, Made, MayGrow, None, OneFile, Option, Parcel, Regular, Room, SessionSeen, Some, TellsGrowth, ToldGrowth, Untold, [], ap, append-nil, arith, block_count, body_at, body_in, chain_at, chain_grown, chain_in, dir_numbers, drop, eqb, eqb-true, false, growth, inl, inr, is_some, length, made_file, open_kind, page_numbers, position, refl, replicate, room_in, set_same, size_in, slice_get, slice_set, spare_pages, subst, sym, take, true, vec_capacity, ℕ, is_directory, is_directory-false, kind_cases, IsBlank}
use Rattle.trio_auxdir.specs.Directory.{Directory as Index}
use Rattle.trio_session.specs.Seen.{grown}
use Rattle.trio_session.specs.contracts.session.Session.{the_invariant, the_view}
use Rattle.trio_session.proofs.Chained.{IsAnew, kind_one, laid_relaid, made_many, relaid_as, relaid_edit, there_found}
use Rattle.trio_session.proofs.Found.{position-at, position-passes}
use Rattle.trio_session.proofs.GrownDirs.{IsDirGrown, kept_grow_dir}
use Rattle.trio_session.proofs.Insides.{files_in}
use Rattle.trio_session.proofs.Kept.{files_of}
use Rattle.trio_session.proofs.Opens.{has_file, is_there, may_grow, open_some, pages_left, plain_kind, shows_view}
use Rattle.trio_session.proofs.Owners.{same_one}
use Rattle.trio_session.proofs.Resized.{grown_leaves_files, kept_grow}
use Rattle.trio_session.proofs.Rooms.{index_there}
use Rattle.trio_session.proofs.Stays.{LeavesFiles}

-- what a growth is given
pub record IsGrowth (v : SessionSeen) (s : Inside) (ino size : ℕ) (k : Kind) (next : ℕ) (b' : Parcel) (ls' : List Laid) (ms' : List Made) (ds' : List IndexedDir) (more : ℕ) : Type 0 where
  pub view : the_view s ≡ v
  pub is : the_invariant s
  pub may : MayGrow v ino size
  pub kind : open_kind v ino ≡ Some k
  pub size_more : size_in (body_in v ino) ≤ size
  pub pages : growth (length (chain_in v ino).blocks) (block_count size) ≤ length (spare_pages v)
  pub room : block_count size ≤ room_in v ino
  pub relaid : IsRelaid (GrowDone s.stock b' size s.placed next) s.stock s.laid.items s.made.items ino ls' ms'
  pub many : more ≡ block_count size - length (chain_in v ino).blocks
  pub told : TellsGrowth k more s.dirs.items ino ds'

module _ (v : SessionSeen) (s : Inside) (ino size : ℕ) (k : Kind) (next : ℕ) (b' : Parcel) (ls' : List Laid) (ms' : List Made) (ds' : List IndexedDir) (more : ℕ)
    (g : IsGrowth v s ino size k next b' ls' ms' ds' more) where
  pub growth_leaves : LeavesFiles s.stock b'
  growth_leaves = grown_leaves_files s.stock b' size s.placed next s.laid.items ls' s.made.items ms' ino g.relaid

  there : IsThere s.stock s.made.items ino
  there = is_there v (files_in s) ino (shows_view v s g.view) (open_some v ino size g.may)

  kinds : (x : OneFile) → IsOne (files_in s) x → x.ino ≡ ino → x.kind ≡ k
  kinds = kind_one v s.placed s.reads.items (files_in s) ino k (shows_view v s g.view) g.is.0 g.is.3 there g.kind

  -- each file of the number has the chain that is shown
  chains : (x : OneFile) → IsOne (files_in s) x → x.ino ≡ ino → chain_at s.stock x.file x.laid ≡ chain_in v ino
  chains x one same =
      let at = there_found (files_in s) ino g.is.0 there in
      let here = has_file v s ino at.0 at.1 g.view g.is at.2 in
      let it : x ≡ here.found.one = same_one s.reads.items (files_in s) x here.found.one g.is.3.apart g.is.3.numbered one here.found.is (same ∙ sym here.found.ino) in
      ap (λ (y : OneFile). chain_at s.stock y.file y.laid) it ∙ ap (λ f. chain_at s.stock f here.found.one.laid) here.found.place ∙ ap (chain_at s.stock at.0) here.found.laid ∙ here.chain

  -- the places behind those that are taken are within the pages
  pub growth_within : next ≤ length b'.pages
  growth_within =
      let edit = relaid_edit (GrowDone s.stock b' size s.placed next) s.stock s.laid.items ls' s.made.items ms' ino g.relaid in
      let may = may_grow v s ino size edit.0 edit.1 g.view g.is edit.3 g.size_more g.pages g.room in
      rw (pages_left s.stock b' growth_leaves) (rw edit.4.ends may.pages)

  regular : is_directory k ≡ false → AreMade next s.reads.items (files_of b' ls' ms' s.cleared.items) × AreDirs s.reads.items (files_of b' ls' ms' s.cleared.items) ds'
  regular is =
      let kept = kept_grow s.placed next s.reads.items s.stock b' s.laid.items ls' s.made.items ms' s.cleared.items s.dirs.items size ino g.is.0 g.is.3 g.is.4 g.relaid (λ x one same. ap is_directory (kinds x one same) ∙ is) in
      elim g.told [
        | Untold none same ↦ (kept.0, subst (AreDirs s.reads.items (files_of b' ls' ms' s.cleared.items)) (sym same) kept.1)
        | ToldGrowth dir some at d d' e here told same ↦ absurd (is_directory-false k is dir)
      ]

  grown_dir : k ≡ Directory → (at : ℕ) (d d' : IndexedDir) → slice_get s.dirs.items at ≡ Some d → d.ino ≡ ino → d'.ino ≡ d.ino → d'.dir.inodes ≡ d.dir.inodes
      → d'.dir.slots ≡ d.dir.slots ++ replicate (16 * more) None
      → AreMade next s.reads.items (files_of b' ls' ms' s.cleared.items) × AreDirs s.reads.items (files_of b' ls' ms' s.cleared.items) (slice_set s.dirs.items at d')
  grown_dir is at d d' here number number' inodes slots =
      kept_grow_dir s.placed next s.reads.items s.stock b' s.laid.items ls' s.made.items ms' s.cleared.items s.dirs.items size ino at d d' g.is.0 g.is.3 g.is.4 g.relaid
      (whole_size is) g.is.4.once here number (λ x one same. record {
        directory = kinds x one same ∙ is;
        ino = number';
        inodes = inodes;
        slots = slots ∙ ap (λ n. d.dir.slots ++ replicate (16 * n) None) (g.many ∙ ap (λ (ch : Chain). block_count size - length ch.blocks) (sym (chains x one same)));
      })
    where
      whole_size : k ≡ Directory → size % 4096 ≡ 0
      whole_size is = elim g.may [
        | inl is_open ↦ absurd (is_directory-false k (plain_kind (open_kind v ino) k is_open g.kind) is)
        | inr dir ↦ dir.whole
      ]

  directory : k ≡ Directory → AreMade next s.reads.items (files_of b' ls' ms' s.cleared.items) × AreDirs s.reads.items (files_of b' ls' ms' s.cleared.items) ds'
  directory is = elim g.may [
    | inl is_open ↦ absurd (is_directory-false k (plain_kind (open_kind v ino) k is_open g.kind) is)
    | inr dir ↦ elim g.told [
      | ToldGrowth _ some at d d' e here told same ↦
          let one : more ≡ 1 = (let le = dir.one in let n = g.many in omega (arith, le, n, some)) in
          let kept = grown_dir is at d d' here (eqb-true d.ino ino (position-passes (λ (x : IndexedDir). eqb x.ino ino) s.dirs.items at d e here)) told.ino (ap (λ (x : Index). x.inodes) told.grown)
          (ap (λ (x : Index). x.slots) told.grown ∙ ap (λ n. d.dir.slots ++ replicate (16 * n) None) (sym one)) in
          (kept.0, subst (AreDirs s.reads.items (files_of b' ls' ms' s.cleared.items)) (sym same) kept.1)
      | Untold none same ↦ by (position (λ (x : IndexedDir). eqb x.ino ino) s.dirs.items) refl none same (subst (λ (x : SessionSeen). In ino x.indexed) (sym g.view) dir.dir.index)
    ]
  ]
    where
      by : (o : Option ℕ) → position (λ (x : IndexedDir). eqb x.ino ino) s.dirs.items ≡ o → (k ≡ Directory → more ≡ 0) → ds' ≡ s.dirs.items → In ino (dir_numbers s.dirs.items)
          → AreMade next s.reads.items (files_of b' ls' ms' s.cleared.items) × AreDirs s.reads.items (files_of b' ls' ms' s.cleared.items) ds'
      by None e none same i = absurd (let t : false ≡ true = sym (ap is_some e) ∙ index_there s.dirs.items ino i in cc t)
      by (Some at) e none same i =
          let d = position-at (λ (x : IndexedDir). eqb x.ino ino) s.dirs.items at e in
          let kept = grown_dir is at d.0 d.0 d.1.0 (eqb-true d.0.ino ino d.1.2) refl refl (sym (ap (λ n. d.0.dir.slots ++ replicate (16 * n) None) (none is) ∙ append-nil d.0.dir.slots)) in
          (kept.0, subst (AreDirs s.reads.items (files_of b' ls' ms' s.cleared.items)) (set_same s.dirs.items at d.0 d.1.0 ∙ sym same) kept.1)

  pub growth_kept : AreMade next s.reads.items (files_of b' ls' ms' s.cleared.items) × AreDirs s.reads.items (files_of b' ls' ms' s.cleared.items) ds'
  growth_kept = elim (kind_cases k) [ inl is ↦ directory is | inr is ↦ regular is ]

  -- the session's invariant after it
  pub growth_inside : AreLaid b' ls' × (next ≤ length b'.pages) × (length s.calls.items < 4294967296) × AreMade next s.reads.items (files_of b' ls' ms' s.cleared.items)
      × AreDirs s.reads.items (files_of b' ls' ms' s.cleared.items) ds' × (length ms' + length s.cleared.items ≤ vec_capacity s.cleared) × IsBlank s.next
  growth_inside =
      let done = GrowDone s.stock b' size s.placed next in
      let edit = relaid_edit done s.stock s.laid.items ls' s.made.items ms' ino g.relaid in
      let count = block_count size in
      let now : Chain → Chain = λ ch. chain_grown ch count (take (growth (length ch.blocks) count) (drop s.placed (page_numbers s.stock.pages))) in
      let anew = relaid_as done (IsAnew s.stock b' (now (chain_in v ino))) s.stock s.laid.items ls' s.made.items ms' ino (λ file l l' found is. record {
        is = is.laid;
        has = is.has;
        now = is.chain ∙ ap now (has_file v s ino file l g.view g.is found).chain;
        others = is.others;
      }) g.relaid in (
        laid_relaid s.stock b' s.laid.items ls' s.made.items ms' ino (now (chain_in v ino)) growth_leaves g.is.0 anew,
        growth_within,
        g.is.2,
        growth_kept.0,
        growth_kept.1,
        rw (made_many done s.stock s.laid.items ls' s.made.items ms' ino g.relaid) g.is.5,
        g.is.6,
      )

-- the index of a directory that grows has a place for the block
pub dir_place : (v : SessionSeen) (ino size : ℕ) → MayGrow v ino size → open_kind v ino ≡ Some Directory → In ino v.room.slots
dir_place v ino size may dir = elim may [
  | inl plain ↦ absurd (is_directory-false Directory (plain_kind (open_kind v ino) Directory plain dir) refl)
  | inr grows ↦ grows.place
]

-- the same directories have their index
pub indexed_grown : (u : SessionSeen) (ino size : ℕ) (ds' : List IndexedDir) (room : Room) → dir_numbers ds' ≡ u.indexed
    → record (grown ino size u) { indexed = dir_numbers ds'; room = room } ≡ record (grown ino size u) { room = room }
unfolding grown
indexed_grown u ino size ds' room same =
    ap (λ ns. record (grown ino size u) { indexed = ns; room = room }) same ∙ chained (is_some (made_file u ino)) refl
  where
    chained : (x : Bool) → is_some (made_file u ino) ≡ x → record (grown ino size u) { indexed = u.indexed; room = room } ≡ record (grown ino size u) { room = room }
    chained true e = rw e refl
    chained false e = rw e refl
