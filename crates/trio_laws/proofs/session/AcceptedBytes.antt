-- After an accepted bundle: the bytes of its own files, and of those that stay as they were.
use Rattle.trio_laws.proofs.Words.{◌∙◌, ◌≡◌, Bundle, Case, Core, Ends, FileRead, Image, In, In-find, In-right, IsFit, IsJudgeable, List, Met, None, Ok, Option, Pick, Row, Some, State, Verifies, Written, [], ap, block_sheets, blocks_of, bundle_core, bytes_now, bytes_of, bytes_of_sheets, bytes_read, case_of, creds_of, eq-eqb, eqb, eqb-true, false, false_from_ne_true, file_of, file_put, file_within, find, find-In, flat_map-same, inl, inr, is_accepted, is_some, is_sound, is_written, judged_files, map, map-In, next, option_and_then, page_of, picked_entry, plain, proposed, proposed_pick, refl, row_at, settled, settled_body, settled_chain, sheets_of, size_of, some_one, subst, survey, survey_put, sym, take, there_same, true, writer_of, ℕ, Bool, cond, data_of, guard_in, guard_now, guard_of, is_directory, option_map, pages_bytes, reads_from, Body}
use Rattle.std.specs.Option.{unwrap_or}
use Rattle.trio_layout.proofs.WithinCore.{listed_within_core}
use Rattle.trio_laws.proofs.Bundles.{Unwritten, unwritten_finds, written_from}
use Rattle.trio_laws.proofs.Isolated.{plain_block}
use Rattle.trio_laws.proofs.history.AcceptedFiles.{fitJ, verifiesJ, now, kept_follows, plain_page}
use Rattle.trio_laws.proofs.history.Blocks.{flat_sheets}
use Rattle.trio_laws.proofs.history.Follows.{chain_read, size_read, body_is_at, data_follows, guard_follows, guard_read, Follows}
use Rattle.trio_laws.proofs.history.Writers.{other_writer, no_writer, dead_writer}
use Rattle.trio_laws.proofs.judgement.CaseFacts.{new_dead, written_find, written_row}
use Rattle.trio_laws.proofs.judgement.JudgedFacts.{one_judged}
use Rattle.trio_laws.proofs.judgement.MeetingEdges.{met_side, same_file}
use Rattle.trio_laws.proofs.judgement.Sides.{Outside}
use Rattle.trio_laws.proofs.judgement.Taking.{fit, sound, judged_met, reads}
use Rattle.trio_laws.proofs.session.Spares.{judged_own}

-- bytes that are replaced, or not
abbrev pub bytes_after : Option (List ℕ) → List ℕ → List ℕ
bytes_after None old = old
bytes_after (Some bytes) old = bytes

-- and the guard that is left
abbrev pub guard_after : Option Bool → Bool → Bool
guard_after None old = old
guard_after (Some guarded) old = guarded

module _ (s s' : State) (lib : ℕ) (b : Bundle) (j : IsJudgeable s lib b) (acc : is_accepted (settled s) (creds_of s lib) b ≡ true) (ends : Ends s lib b (next (settled s) b) s') where
  abbrev c : Case
  c = case_of (settled s) (creds_of s lib) b

  abbrev core : Core
  core = proposed (settled s) b

  abbrev pick : Pick
  pick = proposed_pick (settled s) b

  abbrev after : Image
  after = next (settled s) b

  abbrev Fit : IsFit (proposed (settled s) b)
  Fit = fit s lib b j acc

  abbrev Sound : is_sound core pick ≡ true
  Sound = sound s lib b j acc

  fit' : IsFit (next (settled s) b).core
  fit' = fitJ s j.kept lib (creds_of s lib) b j.given acc

  verifies' : Verifies (next (settled s) b)
  verifies' = verifiesJ s j.kept lib (creds_of s lib) b j.given acc

  -- the bytes of a file then
  abbrev bytes_then : ℕ → Row → List ℕ
  bytes_then n r = bytes_of after n r (writer_of s' n) r.kind

  -- and before
  abbrev bytes_before : ℕ → Row → List ℕ
  bytes_before n r = bytes_of (settled s) n r (writer_of s n) r.kind

  -- ---- a judged file

  dead_unwritten : (n : ℕ) → row_at (settled s) n ≡ None → is_written b n ≡ false
  dead_unwritten n dead =
      false_from_ne_true (is_written b n)
      (λ y.
      let w = written_find s lib b j n y in
      let r = written_row s lib b j w.0 w.1 in
      let wrong : None ≡ Some r.0 = sym dead ∙ ap (row_at (settled s)) (sym w.2) ∙ r.1 in absurd (cc wrong))

  -- no one has it for writing then
  free_blocks : (m : Met) → In m (judged_files c) → (r : Row) → blocks_of after m.ino r (writer_of s' m.ino) ≡ block_sheets after.core (settled_chain after r.kind m.ino)
  free_blocks m i r =
      elim (judged_own c m i) [
        | inl w ↦ ap (blocks_of after m.ino r) (no_writer s s' j.kept lib b j.given after ends m.ino (written_from b m.ino w))
        | inr new ↦
            let dead : row_at (settled s) m.ino ≡ None = new_dead s lib b j m.ino new in
            other_writer s s' j.kept lib b j.given after ends m.ino (dead_unwritten m.ino dead) after r ∙ ap (blocks_of after m.ino r) (dead_writer s j.kept m.ino dead)
      ]

  -- a block of what is no directory has the bundle's bytes
  own_page : (m : Met) (i : In m (judged_files c)) (p : ℕ) → is_directory m.kind ≡ false → In p (reads s lib b j acc m i).file.chain.blocks → page_of after.core p ≡ page_of (bundle_core c) p
  own_page m i p plain' l =
      let r = reads s lib b j acc m i in
      let k = In-right p r.file.chain.index r.file.chain.blocks l in
      plain_page s j.kept lib (creds_of s lib) b j.given acc m r.file p (judged_met s lib b j acc m i) r.whole (plain_block m.kind r.file p plain' l)
      ∙ there_same (settled s) (creds_of s lib) b j.kept.fit.long p (listed_within_core (bundle_core c) m r.file p r.within k) (r.own p k)

  found_now : (m : Met) (i : In m (judged_files c)) → find (λ (x : Met). eqb x.ino m.ino) (judged_files c) ≡ Some m
  found_now m i =
      let f = In-find (λ (x : Met). eqb x.ino m.ino) (judged_files c) m i (eq-eqb m.ino m.ino refl) in
      let g = find-In (λ (x : Met). eqb x.ino m.ino) (judged_files c) f.0 f.1 in
      let same : f.0 ≡ m = one_judged s lib b j f.0 m g.0 i (eqb-true f.0.ino m.ino g.1) in
      f.1 ∙ ap (λ (x : Met). Some x) same

  read_now : (m : Met) (i : In m (judged_files c)) → bytes_now c m.ino ≡ bytes_read (bundle_core c) m.kind (Ok (reads s lib b j acc m i).file)
  read_now m i =
      ap (option_and_then (λ (x : Met). bytes_read (bundle_core c) x.kind (file_within (bundle_core c) x))) (found_now m i)
      ∙ ap (bytes_read (bundle_core c) m.kind) (reads s lib b j acc m i).within

  pub judged_bytes : (m : Met) → In m (judged_files c) → (r : Row) → row_at after m.ino ≡ Some r → r.kind ≡ m.kind → (old : List ℕ) → (is_directory m.kind ≡ true → old ≡ [])
      → bytes_then m.ino r ≡ bytes_after (bytes_now c m.ino) old
  judged_bytes m i r row kind old none =
      ap (bytes_of after m.ino r (writer_of s' m.ino)) kind ∙ by (is_directory m.kind) refl ∙ sym (ap (λ o. bytes_after o old) (read_now m i))
    where
      by : (d : Bool) → is_directory m.kind ≡ d → cond d [] (data_of after m.ino r (writer_of s' m.ino))
          ≡ bytes_after (cond d None (Some (take (reads s lib b j acc m i).file.body.size (pages_bytes (bundle_core c) (reads s lib b j acc m i).file.chain.blocks)))) old
      by true d = sym (none d)
      by false d =
          let f = (reads s lib b j acc m i).file in
          let met = judged_met s lib b j acc m i in
          let placed : FileRead = record { body = f.body; chain = f.chain; entries = map (picked_entry pick m.ino) f.entries } in
          let stands : In m (survey after.core plain) = subst (λ l. In m l) (sym (survey_put core pick Fit Sound)) met in
          let put : file_of after.core m ≡ Ok placed = file_put core pick Fit Sound m f met (reads s lib b j acc m i).whole in
          ap (bytes_of_sheets (size_of after m.ino)) (free_blocks m i r)
          ∙ ap (λ o. bytes_of_sheets (size_of after m.ino) (block_sheets after.core o)) (chain_read after fit' verifies' m placed stands put r row)
          ∙ ap (λ z. bytes_of_sheets z (sheets_of after.core f.chain.blocks)) (size_read after fit' verifies' m placed stands put r row)
          ∙ ap (take f.body.size) (flat_sheets after f.chain.blocks)
          ∙ ap (take f.body.size)
          (flat_map-same (λ p. unwrap_or (page_of after.core p) []) (λ p. unwrap_or (page_of (bundle_core c) p) []) f.chain.blocks
          (λ p l. ap (λ o. unwrap_or o []) (own_page m i p d l)))

  pub judged_guard : (m : Met) → In m (judged_files c) → (r : Row) → row_at after m.ino ≡ Some r → (old : Bool) → guard_of after m.ino ≡ guard_after (guard_now c m.ino) old
  judged_guard m i r row old =
      let f = (reads s lib b j acc m i).file in
      let met = judged_met s lib b j acc m i in
      let placed : FileRead = record { body = f.body; chain = f.chain; entries = map (picked_entry pick m.ino) f.entries } in
      let stands : In m (survey after.core plain) = subst (λ l. In m l) (sym (survey_put core pick Fit Sound)) met in
      let put : file_of after.core m ≡ Ok placed = file_put core pick Fit Sound m f met (reads s lib b j acc m i).whole in
      guard_read after fit' verifies' m placed stands put r row
      ∙ sym (ap (λ (z : Body). z.guard) (body_is_at m.kind core.range m.body f.body (reads_from core m f (reads s lib b j acc m i).whole).body))
      ∙ sym (ap (λ o. guard_after (option_map (λ (x : Met). guard_in x.body) o) old) (found_now m i))

  -- ---- a file that stays as it was

  -- a live file, with its kind and its settled body, that isn't written
  abbrev StaysAs : Met → Type 0
  StaysAs m = (q : Row) × (row_at (settled s) m.ino ≡ Some q) × (m.kind ≡ q.kind) × (m.body ≡ settled_body (settled s) m.ino) × Unwritten b m.ino

  outside_follows : (m : Met) → In m (survey core pick) → (o : Outside s lib b j (reads s lib b j acc) m) → (r : Row) → row_at after m.ino ≡ Some r → Follows (settled s) after m.ino o.row r
  outside_follows m i o r row =
      let w = now s j.kept lib (creds_of s lib) b j.given acc m.ino r row in
      let same : w.met ≡ m = same_file s lib b j acc w.met m w.stands i w.number in
      let stays : StaysAs w.met = subst StaysAs (sym same) (o.row, o.is_row, o.kind, o.body, o.unwritten) in
      kept_follows s j.kept lib (creds_of s lib) b j.given acc m.ino o.row r o.is_row row stays

  outside_guard : (m : Met) → In m (survey core pick) → (o : Outside s lib b j (reads s lib b j acc) m) → (r : Row) → row_at after m.ino ≡ Some r → guard_of after m.ino ≡ guard_of (settled s) m.ino
  outside_guard m i o r row = guard_follows (settled s) after j.kept.fit fit' j.kept.verifies verifies' m.ino o.row r o.is_row row (outside_follows m i o r row)

  pub outside_bytes : (m : Met) → In m (survey core pick) → (o : Outside s lib b j (reads s lib b j acc) m) → (r : Row) → row_at after m.ino ≡ Some r → r.kind ≡ o.row.kind
      → bytes_then m.ino r ≡ bytes_before m.ino o.row
  outside_bytes m i o r row kind = ap (bytes_of after m.ino r (writer_of s' m.ino)) kind ∙ by (is_directory o.row.kind) refl
    where
      by : (d : Bool) → is_directory o.row.kind ≡ d → cond d [] (data_of after m.ino r (writer_of s' m.ino)) ≡ cond d [] (data_of (settled s) m.ino o.row (writer_of s m.ino))
      by true d = refl
      by false d =
          ap (bytes_of_sheets (size_of after m.ino)) (other_writer s s' j.kept lib b j.given after ends m.ino (ap is_some (unwritten_finds b m.ino o.unwritten)) after r)
          ∙ data_follows (settled s) after j.kept.fit fit' j.kept.verifies verifies' m.ino o.row r o.is_row row (outside_follows m i o r row) (writer_of s m.ino) d

  -- the bundle has no bytes of it, and no guard
  outside_unfound : (m : Met) → Outside s lib b j (reads s lib b j acc) m → find (λ (x : Met). eqb x.ino m.ino) (judged_files c) ≡ None
  outside_unfound m o = by (find (λ (x : Met). eqb x.ino m.ino) (judged_files c)) refl
    where
      by : (z : Option Met) → find (λ (x : Met). eqb x.ino m.ino) (judged_files c) ≡ z → z ≡ None
      by None h = refl
      by (Some x) h =
          let f = find-In (λ (x : Met). eqb x.ino m.ino) (judged_files c) x h in
          let is : x.ino ≡ m.ino = eqb-true x.ino m.ino f.1 in
          elim (judged_own c x f.0) [
            | inl w ↦ (let k = map-In (λ (w : Written). w.ino) x.ino b.writes w in absurd (o.unwritten k.0 k.1 (sym k.2 ∙ is)))
            | inr new ↦ (let wrong : None ≡ Some o.row = sym (new_dead s lib b j x.ino new) ∙ ap (row_at (settled s)) is ∙ o.is_row in absurd (cc wrong))
          ]

  outside_unread : (m : Met) → Outside s lib b j (reads s lib b j acc) m → bytes_now c m.ino ≡ None
  outside_unread m o = ap (option_and_then (λ (x : Met). bytes_read (bundle_core c) x.kind (file_within (bundle_core c) x))) (outside_unfound m o)

  outside_unguarded : (m : Met) → Outside s lib b j (reads s lib b j acc) m → guard_now c m.ino ≡ None
  outside_unguarded m o = ap (option_map (λ (x : Met). guard_in x.body)) (outside_unfound m o)

  -- ---- any file that was there

  pub live_guard : (m : Met) (r' : Row) → In m (survey core pick) → row_at after m.ino ≡ Some r' → guard_of after m.ino ≡ guard_after (guard_now c m.ino) (guard_of (settled s) m.ino)
  live_guard m r' i row' =
      elim (met_side s lib b j acc m i) [
        | inl k ↦ judged_guard m k r' row' (guard_of (settled s) m.ino)
        | inr o ↦ outside_guard m i o r' row' ∙ sym (ap (λ g. guard_after g (guard_of (settled s) m.ino)) (outside_unguarded m o))
      ]

  pub live_bytes : (m : Met) (r r' : Row) → In m (survey core pick) → row_at (settled s) m.ino ≡ Some r → row_at after m.ino ≡ Some r' → r'.kind ≡ m.kind → r.kind ≡ m.kind
      → bytes_then m.ino r' ≡ bytes_after (bytes_now c m.ino) (bytes_before m.ino r)
  live_bytes m r r' i row row' kind' kind =
      elim (met_side s lib b j acc m i) [
        | inl k ↦ judged_bytes m k r' row' kind' (bytes_before m.ino r) (λ d. ap (λ t. cond t [] (data_of (settled s) m.ino r (writer_of s m.ino))) (ap is_directory kind ∙ d))
        | inr o ↦
            let rows : o.row ≡ r = some_one (row_at (settled s) m.ino) o.row r o.is_row row in
            outside_bytes m i o r' row' (kind' ∙ sym kind ∙ ap (λ (x : Row). x.kind) (sym rows))
            ∙ ap (bytes_before m.ino) rows
            ∙ sym (ap (λ q. bytes_after q (bytes_before m.ino r)) (outside_unread m o))
      ]
