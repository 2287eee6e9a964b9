-- A place at which a rule fails with the copied rows alone is one at which it fails.
use Rattle.trio_laws.proofs.Words.{◌||◌, ◌∙◌, ◌≡◌, BreaksGrammar, BreaksOwning, BreaksRights, Bundle, Case, EntryAt, In, IsJudgeable, Location, Met, State, ap, arith, body_of, case_of, creds_of, entry_in_grammar, inl, inr, is_some, judged_entries, judged_listings, settled, subst, sym, with_copied, ℕ}
use Rattle.trio_layout.specs.Broken.{FileAt}
use Rattle.trio_layout.specs.Case.{file_in}
use Rattle.trio_laws.proofs.judgement.CopiedRows.{entries_same, entry_rights_same, file_rights_same, judged_same, kept_same}

module _ (s : State) (lib : ℕ) (b : Bundle) (j : IsJudgeable s lib b) (ino : ℕ) (place : Location) where
  abbrev c : Case
  c = case_of (settled s) (creds_of s lib) b

  abbrev d : Case
  d = with_copied (case_of (settled s) (creds_of s lib) b)

  file_told : (m : Met) → FileAt d ino m → FileAt c ino m
  file_told m f = record { among = subst (In m) (judged_same s lib b j) f.among; number = f.number }

  entry_told : (e : Met) → EntryAt d ino place e → EntryAt c ino place e
  entry_told e a = record { among = subst (In e) (entries_same s lib b j) a.among; directory = a.directory; page = a.page; slot = a.slot }

  entry_kept : (e : Met) → EntryAt d ino place e → In e (judged_entries c)
  entry_kept e a = (entry_told e a).among

  listings_same : judged_listings d ≡ judged_listings c
  listings_same = search (arith, judged_same)

  pub grammar_told : BreaksGrammar d ino place → BreaksGrammar c ino place
  grammar_told (inl f) = inl (f.0, file_told f.0 f.1, f.2)
  grammar_told (inr e) =
      let same : entry_in_grammar d e.0 ≡ entry_in_grammar c e.0 = ap (λ t. t || is_some (body_of e.0.kind c.range e.0.body)) (kept_same s lib b j e.0 (entry_kept e.0 e.1)) in
      inr (e.0, entry_told e.0 e.1, sym same ∙ e.2)

  pub owning_told : BreaksOwning d ino place → BreaksOwning c ino place
  owning_told (inl p) = inl (p.0, (p.1.0, file_told p.1.0 p.1.1, p.1.2, p.1.3), p.2)
  owning_told (inr (inl p)) = search (arith, file_told, listings_same, kept_same, entry_kept, entry_told, entries_same)
  owning_told (inr (inr (inl e))) = search (arith, file_told, listings_same, kept_same, entry_kept, entry_told, entries_same)
  owning_told (inr (inr (inr a))) = search (arith, file_told, listings_same, kept_same, entry_kept, entry_told, entries_same)

  pub rights_told : BreaksRights d ino place → BreaksRights c ino place
  rights_told (inl e) = inl (e.0, entry_told e.0 e.1, sym (entry_rights_same s lib b j e.0 (entry_kept e.0 e.1)) ∙ e.2)
  rights_told (inr m) = inr (m.0, file_told m.0 m.1, sym (file_rights_same s lib b j m.0 (file_in c m.0)) ∙ m.2, m.3)
