-- A held file that stays or moves keeps its content.
use Rattle.trio_laws.proofs.Words.{◌++◌, ◌∙◌, ◌≡◌, Bundle, Core, Creds, GivenTo, Image, In, IsFit, Kept, MetAt, Ok, Pick, Row, Some, State, accepted_verifies, all_listed, ap, arith, file_of, file_put, fit_put, is_accepted, is_among-In, is_sound, map, met_row, next, page_of, page_put_is, pages_are, picked_entry, plain, plain_pages, proposed, proposed_pick, reads_from, reads_to, refl, row_at, row_at_is, settled, settled_body, settled_body_met, subst, survey, survey_put, sym, true, ℕ}
use Rattle.trio_laws.specs.ContentLaws.{HasSameContent, HeldFilesKeepContent}
use Rattle.trio_laws.proofs.StateFacts.{tables, live_met}
use Rattle.trio_laws.proofs.Bundles.{held_unwritten, Unwritten, unwritten_apart, page_kept}
use Rattle.trio_laws.proofs.Survivors.{fit_now, sound_now, held_met}
use Rattle.trio_laws.proofs.Isolated.{same_file, picked_only, plain_listed, bare_page, put_none}

module _ (s : State) (lib : ℕ) (creds : Creds) (b : Bundle) (n : ℕ) (r q : Row) (k : Kept s)
    (given : GivenTo s lib b) (accepted : is_accepted (settled s) creds b ≡ true) (row : row_at s.home n ≡ Some r)
    (held : In n b.holds) (row' : row_at (next (settled s) b) n ≡ Some q) where
  abbrev image : Image
  image = settled s

  abbrev core : Core
  core = proposed (settled s) b

  abbrev pick : Pick
  pick = proposed_pick (settled s) b

  abbrev after : Image
  after = next (settled s) b

  fit : IsFit core
  fit = fit_now s k lib creds b given accepted

  sound : is_sound core pick ≡ true
  sound = sound_now s k lib creds b given accepted

  was : MetAt image.core plain n r
  was = live_met s k n r row

  is : MetAt core pick n q
  is = met_row core pick fit sound n q (sym (row_at_is core pick fit sound after (record {
    rows = refl;
    owners =
        refl;
  }) n) ∙ row')

  un : Unwritten b was.met.ino
  un = held_unwritten s k lib b given was.met.ino (subst (λ i. In i b.holds) (sym was.number) held)

  same_kind : is.met.kind ≡ was.met.kind
  same_kind = (held_met s k lib creds b given accepted n r is.met held row is.stands is.number).0
      ∙ ap (λ (x : Row). x.kind) was.row

  same_body : is.met.body ≡ was.met.body
  same_body =
      (held_met s k lib creds b given accepted n r is.met held row is.stands is.number).1
      ∙ ap (settled_body image) (sym was.number)
      ∙ settled_body_met image was.met k.fit k.verifies.sound (tables s k) was.stands

  page_stays : (p : ℕ) → In p (was.file.chain.index ++ was.file.chain.blocks) → page_of core p ≡ page_of image.core p
  page_stays p i =
      page_kept s k lib b given p
      (unwritten_apart s k lib b given was.met p was.stands un
      (subst (λ l. In p l) (sym (pages_are image.core was.met was.file was.read)) i))

  read_now : file_of core is.met ≡ Ok was.file
  read_now =
      let r = reads_from core was.met was.file (same_file image.core core was.met was.file refl refl was.read
      page_stays) in
      search (arith, reads_to, is, was, same_kind, same_body)

  page_now : (p : ℕ) → In p (plain_pages was.met.kind was.file) → page_of after.core p ≡ page_of image.core p
  page_now p i =
      let i' : In p (plain_pages is.met.kind was.file) = subst (λ c. In p (plain_pages c was.file)) (sym same_kind) i in
      page_put_is core pick fit sound p
      ∙ put_none p (all_listed core pick) (page_of core p)
      (bare_page core pick sound is.met was.file p is.stands read_now i')
      ∙ page_stays p (plain_listed was.met.kind was.file p i)

  pub same_content : HasSameContent image after n
  same_content =
      let v = accepted_verifies image creds b fit accepted in
      let there : In is.met (survey after.core plain) =
      subst (λ l. In is.met l) (sym (survey_put core pick fit sound)) is.stands in
      let now = settled_body_met after is.met (fit_put core pick fit sound) v.sound (record {
        rows = v.rows;
        owners =
            v.owners;
      }) there in
      let before = settled_body_met image was.met k.fit k.verifies.sound (tables s k) was.stands in
      record {
        met_was = was.met;
        met_is = is.met;
        file_was = was.file;
        file_is = record was.file { entries = map (picked_entry pick is.met.ino) was.file.entries };
        number_was = was.number;
        number_is = is.number;
        stood = was.stands;
        stands = there;
        read_was = was.read;
        read_is = file_put core pick fit sound is.met was.file is.stands read_now;
        kind = same_kind;
        body = refl;
        chain = refl;
        pages = page_now;
        entries = picked_only pick is.met.ino was.file.entries;
        settled_bodies = search (arith, is, same_body, was);
      }

pub held_files_keep_content : HeldFilesKeepContent
held_files_keep_content s lib creds b n r q k given accepted row held row' =
    same_content s lib creds b n r q k given accepted row (is_among-In n b.holds held) row'
