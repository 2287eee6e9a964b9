-- One more index: of a directory that the session shows and that has none yet.
use Rattle.trio_session.proofs.Words.{if◌then◌else◌, ◌++◌, ◌∙◌, ◌∷◌, ◌≡◌, ◌⊎◌, AreDirs, Bool, Chain, Directory, In, In-cases, IndexedDir, Inside, IsIndexHere, IsIndexed, Kind, List, None, Option, SessionSeen, Shown, Some, [], ap, are_new, are_new-push, chain_in, dir_numbers, dir_pages, every_number, false, inl, inr, is_among, is_among-In, is_some, kind_shown, map, map-append, open_kind, option_map, option_map_or, option_or, page_in, read_file, refl, slots_of, slots_shown, subst, sym, true, ℕ}
use Rattle.std.proofs.Common.{not}
use Rattle.std.specs.Prelude.{◌&&◌}
use Rattle.trio_session.specs.contracts.session.Session.{the_invariant, the_view}
use Rattle.trio_session.proofs.Dirs.{push_more}
use Rattle.trio_session.proofs.Insides.{files_in}
use Rattle.trio_session.proofs.Slotted.{dir_one, dir_shown}

-- a number that isn't there is new
pushed_once : (ns : List ℕ) (n : ℕ) → are_new [] ns ≡ true → (In n ns → ⊥) → are_new [] (ns ++ n ∷ []) ≡ true
pushed_once ns n once out = are_new-push [] ns n ∙ ap (λ b. b && not (is_among n ns)) once ∙ by (is_among n ns) refl
  where
    by : (b : Bool) → is_among n ns ≡ b → not (is_among n ns) ≡ true
    by true e = absurd (out (is_among-In n ns e))
    by false e = ap not e

-- the index of a directory that is shown is that of a file of the session, or of one that is lent for reading
index_stands : (v : SessionSeen) (s : Inside) (d : IndexedDir) → the_view s ≡ v → the_invariant s → kind_shown v d.ino ≡ Some Directory → d.dir.inodes ≡ every_number
    → d.dir.slots ≡ slots_shown v d.ino → IsIndexHere (files_in s) d ⊎ IsIndexed s.reads.items d
index_stands v s d view is shown inodes slots = by (open_kind v d.ino) refl
  where
    lent : (o : Option Shown) → open_kind v d.ino ≡ None → read_file v d.ino ≡ o → IsIndexed s.reads.items d
    lent None e r = absurd (let t : None ≡ Some Directory = sym (ap (λ o. option_or o (option_map (λ (f : Shown). f.kind) (read_file v d.ino))) e ∙ ap (option_map (λ (f : Shown). f.kind)) r) ∙ shown in cc t)
    lent (Some f) e r = record {
      lease = f;
      there = ap (λ (x : SessionSeen). read_file x d.ino) view ∙ r;
      directory = (let t : Some f.kind ≡ Some Directory = sym (ap (λ o. option_or o (option_map (λ (f : Shown). f.kind) (read_file v d.ino))) e ∙ ap (option_map (λ (f : Shown). f.kind)) r) ∙ shown in cc t);
      index = record {
        inodes = inodes;
        slots = slots
            ∙ ap (λ o. slots_of every_number (if is_some o then map (page_in v.parcel) (chain_in v d.ino).blocks else option_map_or dir_pages (read_file v d.ino) [])) e
            ∙ ap (λ o. slots_of every_number (option_map_or dir_pages o [])) r;
      };
    }

    by : (o : Option Kind) → open_kind v d.ino ≡ o → IsIndexHere (files_in s) d ⊎ IsIndexed s.reads.items d
    by None e = inr (lent (read_file v d.ino) e refl)
    by (Some k) e =
        let same : k ≡ Directory = (let t : Some k ≡ Some Directory = sym (ap (λ o. option_or o (option_map (λ (f : Shown). f.kind) (read_file v d.ino))) e) ∙ shown in cc t) in
        let opened : open_kind v d.ino ≡ Some Directory = e ∙ ap Some same in
        let x = dir_one v s d.ino view is opened in
        inl (record {
          dir = x.0;
          one = x.1;
          number = x.2;
          directory = x.3;
          inodes = inodes;
          slots = slots ∙ dir_shown v s d.ino view is opened ∙ ap (λ (ch : Chain). slots_of every_number (map (page_in s.stock) ch.blocks)) (sym x.4);
        })

pub dirs_pushed : (v : SessionSeen) (s : Inside) (d : IndexedDir) (dirs : List IndexedDir) → the_view s ≡ v → the_invariant s → kind_shown v d.ino ≡ Some Directory → (In d.ino v.indexed → ⊥)
    → d.dir.inodes ≡ every_number → d.dir.slots ≡ slots_shown v d.ino → dirs ≡ s.dirs.items ++ d ∷ [] → AreDirs s.reads.items (files_in s) dirs
dirs_pushed v s d dirs view is shown new inodes slots e = record {
  once = ap (are_new []) (ap dir_numbers e ∙ map-append (λ (x : IndexedDir). x.ino) s.dirs.items (d ∷ []))
      ∙ pushed_once (dir_numbers s.dirs.items) d.ino is.4.once (λ i. new (subst (λ (x : SessionSeen). In d.ino x.indexed) view i));
  indexed = λ x i. elim (In-cases x s.dirs.items (d ∷ []) (subst (In x) e i)) [
    | inl old ↦ is.4.indexed x old
    | inr one ↦ elim one [
      | inl same ↦ subst (λ y. IsIndexHere (files_in s) y ⊎ IsIndexed s.reads.items y) (sym same) (index_stands v s d view is shown inodes slots)
      | inr none ↦ absurd none
    ]
  ];
  readable = λ x one dir. elim (is.4.readable x one dir) [
    | inl i ↦ inl (push_more s.dirs.items dirs d x.ino e i)
    | inr read ↦ inr read
  ];
}
