-- Every step leaves the files that its library has neither for writing nor by a hold.
use Rattle.trio_laws.proofs.Words.{◌++◌, ◌∙◌, ◌≡◌, ◌≢◌, ◌≤◌, AgreeOn, Allot, Back, Bundle, Core, CtlAnswer, Ends, FileRead, GivenTo, Grant, GrantFault, GrantKind, Hold, Image, In, In-right, IsAccepted, IsFit, IsRefused, Kept, Met, MetAt, ModeFault, None, OpenGrant, Option, Pages, Parted, Read, Release, ReleaseEnd, Row, SetMode, Settle, Sheet, Some, State, TablesOf, Verifies, Write, allot_outcome, allots, ap, body_moded, body_with_mode, bundle_pages, bundle_sheets, changed, cond, creds_of, eqb, false, false≢true, file_agrees, file_of, free_numbers, free_pages, free_unlisted, get_or-set_other, given_back, grant_fault, granted_to, image_with_mode, inl, inr, is_accepted, library_of, listed0, map-In, met_other, met_row, mode_body_other, mode_core_is, mode_fault, mode_file, mode_met, moded_to, ms, ne_eqb, next, opened, opens, page_now, page_of, page_owner, page_same, pages_are, plain, plain_pages, read_now, refl, refused_image, row_at, row_at_is, row_by, row_with_mode, settled, sound_parts, subst, survey, sym, take, told_children, true, uncovered, with_other, with_pages_apart, ℕ}
use Rattle.std.specs.Prelude.{Ok}
use Rattle.trio_laws.specs.Laws.{IsUntouched, HasNone, IsElsewhere, EveryStepIsIsolated}
use Rattle.trio_laws.proofs.Cases.{after_allot, after_no_grant, after_no_mode}
use Rattle.trio_laws.proofs.Agreeing.{image_with, met_still, body_still}
use Rattle.trio_laws.proofs.StateFacts.{tables, live_met}
use Rattle.trio_laws.proofs.Bundles.{Unwritten, unwritten_apart, closed_unparted, Closed, in_numbers}
use Rattle.trio_laws.proofs.WriteGrant.{pages as lent_pages_after, pages_now as lent_now, agree as lent_agree, fit' as lent_fit}
use Rattle.trio_laws.proofs.Grants.{settled_same, excluded_none}
use Rattle.trio_laws.proofs.Allots.{pages as allot_pages, pages_now as allot_now, page_free, agree as allot_agree, fit' as allot_fit}
use Rattle.trio_laws.proofs.Backs.{settled_back}
use Rattle.trio_laws.proofs.Uncovered.{uncovered_handed}
use Rattle.trio_laws.proofs.Refusing.{pages as refused_pages, agree as refused_agree, fit' as refused_fit}
use Rattle.trio_surveys.proofs.ModedCore.{pick as mode_pick}
use Rattle.trio_laws.proofs.Modes.{may_change, settled_moded}
use Rattle.trio_laws.proofs.Isolated.{picked_only, put_none, bare_page, plain_listed, untouched}

-- an image with other pages, where those that are read and the file's own are the same
module _ (image : Image) (pages : Pages) (fit : IsFit image.core) (fit' : IsFit (with_other image.core pages)) (v : Verifies image) (agree : AgreeOn image.core (with_other image.core pages) (survey image.core plain)) (n : ℕ) (r : Row) (row : row_at image n ≡ Some r) where
  pub agreeing_untouched : ((m : Met) (f : FileRead) (p : ℕ) → In m (survey image.core plain) → m.ino ≡ n → file_of image.core m ≡ Ok f → In p (plain_pages m.kind f) → page_of (with_other image.core pages) p ≡ page_of image.core p) → IsUntouched image (image_with image pages) n
  agreeing_untouched same =
      let t : TablesOf image image.core plain = record { rows = v.rows; owners = v.owners } in
      let was : MetAt image.core plain n r = met_row image.core plain fit v.sound n r (sym (row_at_is image.core plain fit v.sound image t n) ∙ row) in
      record {
        met = was.met;
        file_was = was.file;
        file_is = was.file;
        number = was.number;
        stood = was.stands;
        stands = met_still image pages fit fit' v agree was.met was.stands;
        read_was = was.read;
        read_is = file_agrees image.core pages (survey image.core plain) (sound_parts image.core plain v.sound).grammar agree was.met was.stands ∙ was.read;
        body = refl;
        chain = refl;
        pages = λ p i. same was.met was.file p was.stands was.number was.read i;
        entries = refl;
        settled_bodies = body_still image pages fit fit' v agree n r row;
        row = refl;
      }

-- an image is itself
pub same_untouched : (image : Image) → IsFit image.core → Verifies image → (n : ℕ) (r : Row) → row_at image n ≡ Some r → IsUntouched image image n
same_untouched image fit v n r row =
    agreeing_untouched image image.core.pages fit fit v (λ m f p i e a. refl) n r row (λ m f p i num e a. refl)

-- the image in which another file has another mode
module _ (image : Image) (ino mode : ℕ) (r0 : Row) (fit : IsFit image.core) (v : Verifies image) (row0 : row_at image ino ≡ Some r0) (small : mode ≤ 511) (other : ino ≡ 1 → ⊥) where
  pub mode_untouched : (n : ℕ) (r : Row) → row_at image n ≡ Some r → (n ≡ ino → ⊥) → IsUntouched image (image_with_mode image ino mode) n
  mode_untouched n r row differ =
      let t : TablesOf image image.core plain = record { rows = v.rows; owners = v.owners } in
      let q = mode_met image ino mode r0 fit v row0 small other in
      let not_root = met_other image ino mode r0 fit v row0 small other in
      let was : MetAt image.core plain n r = met_row image.core plain fit v.sound n r (sym (row_at_is image.core plain fit v.sound image t n) ∙ row) in
      let away : eqb was.met.ino q.met.ino ≡ false = ne_eqb was.met.ino q.met.ino (λ e. differ (sym was.number ∙ e ∙ q.number)) in
      let file = mode_file image ino mode r0 fit v row0 small other was.met was.file was.stands was.read in
      let now : FileRead = read_now image.core fit v.sound mode small q.met q.stands not_root was.met was.file in
      let same : changed q.met.ino mode was.met ≡ was.met = ap (λ b. record was.met { body = cond b (body_with_mode mode was.met.body) was.met.body }) away in
      let after : Core = (image_with_mode image ino mode).core in
      record {
        met = was.met;
        file_was = was.file;
        file_is = now;
        number = was.number;
        stood = was.stands;
        stands = subst (λ m. In m (survey after plain)) same file.0;
        read_was = was.read;
        read_is = ap (file_of after) (sym same) ∙ file.1;
        body = ap (λ b. cond b (body_moded mode was.file.body) was.file.body) away;
        chain = refl;
        pages = λ p i.
            ap (λ (c : Core). page_of c p) (sym (mode_core_is image ino mode r0 fit v row0 small other))
            ∙ page_now image.core fit v.sound mode small q.met q.stands not_root p
            ∙ put_none p (ms image.core fit v.sound mode small q.met q.stands not_root) (page_of image.core p)
            (λ x j on.
            elim j [
              | inl is ↦
                  bare_page image.core plain v.sound was.met was.file p was.stands was.read i q.met (listed0 image.core fit v.sound mode small q.met q.stands not_root) (sym (ap (λ (y : Met). y.page) is) ∙ on)
              | inr none ↦ none
            ]);
        entries = picked_only (mode_pick image.core fit v.sound mode small q.met q.stands not_root) was.met.ino was.file.entries;
        settled_bodies = mode_body_other image ino mode r0 fit v row0 small other n r row differ;
        row = get_or-set_other image.rows ino n (row_with_mode mode (row_at image ino)) None differ;
      }

module _ (s : State) (k : Kept s) (lib n : ℕ) (r : Row) (row : row_at (settled s) n ≡ Some r) where
  abbrev Same : State → Type 0
  Same s' = IsUntouched (settled s) (settled s') n

  nothing : Same s
  nothing = same_untouched (settled s) k.fit k.verifies n r row

  light : (g : OpenGrant) → settled (opens s g) ≡ settled s → Same (opens s g)
  light g e = (let U : Image → Type 0 = λ i. IsUntouched (settled s) i n in subst U (sym e) nothing)

  -- a page of the file is none of another file that is met
  apart : (m m0 : Met) (f f0 : FileRead) (p : ℕ) → In m (survey (settled s).core plain) → In m0 (survey (settled s).core plain) → file_of (settled s).core m ≡ Ok f → file_of (settled s).core m0 ≡ Ok f0 → In p (plain_pages m.kind f) → In p f0.chain.blocks → m ≡ m0
  apart m m0 f f0 p i i0 e e0 a a0 =
      let core : Core = (settled s).core in
      page_owner core (survey core plain) m m0 p (sound_parts core plain k.verifies.sound).paged i i0
      (subst (λ l. In p l) (sym (pages_are core m f e)) (plain_listed m.kind f p a))
      (subst (λ l. In p l) (sym (pages_are core m0 f0 e0)) (In-right p f0.chain.index f0.chain.blocks a0))

  write : (ino : ℕ) (q : Row) → grant_fault s lib ino Write ≡ None → row_at s.home ino ≡ Some q → ino ≢ n → Same (opens s (opened s lib ino Write q))
  write ino q e at elsewhere =
      let core : Core = (settled s).core in
      let m0 = live_met s k ino q at in
      let free : (g : OpenGrant) → In g s.open_grants → g.ino ≡ m0.met.ino → ⊥ = λ g i same. false≢true (sym (excluded_none s lib ino Write e g i (same ∙ m0.number))) in
      let U : ℕ → Row → Type 0 = λ j x. Same (opens s (opened s lib j Write x)) in
      let a : Same (opens s (opened s lib m0.met.ino Write (row_by m0.met m0.file.body))) =
      agreeing_untouched (settled s) (lent_pages_after s k lib m0.met m0.file m0.stands m0.read free) k.fit (lent_fit s k lib m0.met m0.file m0.stands m0.read free) k.verifies (lent_agree s k lib m0.met m0.file m0.stands m0.read free) n r row
      (λ m f p i num read own.
      elim (lent_now s k lib m0.met m0.file m0.stands m0.read free p) [
        | inl same ↦ page_same core (lent_pages_after s k lib m0.met m0.file m0.stands m0.read free) p same
        | inr gone ↦
            let one : m ≡ m0.met = apart m m0.met f m0.file p i m0.stands read m0.read own gone.0 in
            absurd (elsewhere (sym m0.number ∙ ap (λ (x : Met). x.ino) (sym one) ∙ num))
      ]) in
      subst (λ x. U ino x) (sym m0.row) (subst (λ j. U j (row_by m0.met m0.file.body)) m0.number a)

  granted : (ino : ℕ) (kind : GrantKind) (q : Row) → grant_fault s lib ino kind ≡ None → row_at s.home ino ≡ Some q → (kind ≡ Write → ino ≢ n) → Same (opens s (opened s lib ino kind q))
  granted ino Read q e at elsewhere = (let g : OpenGrant = opened s lib ino Read q in light g (settled_same s k g refl refl (λ w. cc w)))
  granted ino Hold q e at elsewhere = (let g : OpenGrant = opened s lib ino Hold q in light g (settled_same s k g refl refl (λ w. cc w)))
  granted ino Write q e at elsewhere = write ino q e at (elsewhere refl)

  grant : (ino : ℕ) (kind : GrantKind) (f : Option GrantFault) (o : Option Row) → grant_fault s lib ino kind ≡ f → row_at s.home ino ≡ o → IsElsewhere n (Grant lib ino kind) (granted_to s lib ino kind f o).answer → Same (granted_to s lib ino kind f o).after
  grant ino kind (Some fault) o e at elsewhere = after_no_grant Same s fault nothing nothing
  grant ino kind None None e at elsewhere = nothing
  grant ino kind None (Some q) e at elsewhere = granted ino kind q e at (λ w. elsewhere w (told_children s.home ino kind) refl)

  allotted : (count many : ℕ) → Same (allots s lib (take count (free_pages s)) (take many (free_numbers s)))
  allotted count many =
      let core : Core = (settled s).core in
      agreeing_untouched (settled s) (allot_pages s lib count many k) k.fit (allot_fit s lib count many k) k.verifies (allot_agree s lib count many k) n r row
      (λ m f p i num read own.
      elim (allot_now s lib count many k p) [
        | inl same ↦ page_same core (allot_pages s lib count many k) p same
        | inr gone ↦
            absurd (free_unlisted core plain k.fit k.verifies.sound (settled s) (tables s k) p (page_free s lib count many p gone.0).0 m i (subst (λ l. In p l) (sym (pages_are core m f read)) (plain_listed m.kind f p own)))
      ])

  allot : (count many : ℕ) → Same (allot_outcome s lib count many).after
  allot count many = after_allot Same s lib count many nothing (allotted count many)

  back : (ino : ℕ) → Same (given_back s lib ino)
  back ino = (let U : Image → Type 0 = λ i. IsUntouched (settled s) i n in subst U (sym (settled_back s k lib ino)) nothing)

  unwritten : (b : Bundle) → GivenTo s lib b → HasNone s lib n → Unwritten b n
  unwritten b given none w i e =
      let g = given.writes w i in
      none.0 (record { grant = g.grant; is_open = g.is_open; lib = g.lib; kind = g.kind; ino = g.ino ∙ e })

  refused : (s' : State) (b : Bundle) (given : GivenTo s lib b) → Closed s lib b → Ends s lib b (refused_image (settled s) b) s' → HasNone s lib n → Same s'
  refused s' b given closed e none =
      let core : Core = (settled s).core in
      let ps : Pages = refused_pages s s' k lib b given closed e in
      let a : IsUntouched (settled s) (refused_image (settled s) b) n =
      agreeing_untouched (settled s) ps k.fit (refused_fit s s' k lib b given closed e) k.verifies (refused_agree s s' k lib b given closed e) n r row
      (λ m f p i num read own.
      page_same core ps p (with_pages_apart (uncovered (settled s) b ++ b.pages) core.pages p
      (λ j.
      let x = map-In (λ (y : Sheet). y.page) p (uncovered (settled s) b ++ b.pages) j in
      let h : In p (bundle_pages b) = in_numbers (bundle_sheets b) x.0 p (uncovered_handed s k lib b given x.0 x.1) x.2 in
      unwritten_apart s k lib b given m p i (λ w c same. unwritten b given none w c (same ∙ num)) (subst (λ l. In p l) (sym (pages_are core m f read)) (plain_listed m.kind f p own)) h))) in
      let U : Image → Type 0 = λ i. IsUntouched (settled s) i n in subst U (sym e.settles) a

  accepted : (s' : State) (b : Bundle) (given : GivenTo s lib b) → is_accepted (settled s) (creds_of s lib) b ≡ true → Ends s lib b (next (settled s) b) s' → HasNone s lib n → Same s'
  accepted s' b given acc e none =
      let a = untouched s lib (creds_of s lib) b n r k given acc row (λ i. none.1 (given.holds n i)) (unwritten b given none) in
      let U : Image → Type 0 = λ i. IsUntouched (settled s) i n in subst U (sym e.settles) a

  release : (s' : State) (b : Bundle) (answer : CtlAnswer) → GivenTo s lib b → HasNone s lib n → ReleaseEnd s lib b answer s' → Same s'
  release s' b answer given none (Parted m some e same) = (let U : State → Type 0 = λ x. Same x in subst U (sym same) nothing)
  release s' b answer given none (IsAccepted closed t e ends) = accepted s' b given t ends none
  release s' b answer given none (IsRefused closed f why e tells ends) = refused s' b given (closed_unparted s lib b closed) ends none

  set_mode : (ino mode : ℕ) (o : Option Row) (f : Option ModeFault) → row_at s.home ino ≡ o → mode_fault s lib ino mode o ≡ f → IsElsewhere n (SetMode lib ino mode) (moded_to s ino mode f).answer → Same (moded_to s ino mode f).after
  set_mode ino mode o (Some fault) at e elsewhere = after_no_mode Same s fault nothing nothing
  set_mode ino mode None None at e elsewhere = absurd cc
  set_mode ino mode (Some q) None at e elsewhere =
      let may = may_change s lib ino mode q e in
      let a = mode_untouched (settled s) ino mode q k.fit k.verifies at may.small may.other n r row (λ same. elsewhere refl (sym same)) in
      let U : Image → Type 0 = λ i. IsUntouched (settled s) i n in
      subst U (sym (settled_moded s k ino mode q at may.small may.other may.free)) a

-- each step leaves the files that its library has neither for writing nor by a hold
pub every_step_is_isolated : EveryStepIsIsolated
every_step_is_isolated s event answer s' n r k given (inr none) row has elsewhere =
    let U : State → Type 0 = λ x. IsUntouched (settled s) (settled x) n in
    subst U (sym none.2) (nothing s k (library_of event) n r row)
every_step_is_isolated s (Grant lib ino kind) answer s' n r k given (inl does) row has elsewhere =
    let U : State → Type 0 = λ x. IsUntouched (settled s) (settled x) n in
    subst U (sym does.1) (grant s k lib n r row ino kind (grant_fault s lib ino kind) (row_at s.home ino) refl refl (subst (IsElsewhere n (Grant lib ino kind)) does.0 elsewhere))
every_step_is_isolated s (Allot lib count many) answer s' n r k given (inl does) row has elsewhere =
    let U : State → Type 0 = λ x. IsUntouched (settled s) (settled x) n in
    subst U (sym does.1) (allot s k lib n r row count many)
every_step_is_isolated s (Back lib ino) answer s' n r k given (inl does) row has elsewhere =
    let U : State → Type 0 = λ x. IsUntouched (settled s) (settled x) n in
    subst U (sym does.1) (back s k lib n r row ino)
every_step_is_isolated s (Release lib b) answer s' n r k given (inl does) row has elsewhere =
    release s k lib n r row s' b answer given has does
every_step_is_isolated s (Settle lib b) answer s' n r k given (inl does) row has elsewhere =
    accepted s k lib n r row s' b given.0 does.2 does.3 has
every_step_is_isolated s (SetMode lib ino mode) answer s' n r k given (inl does) row has elsewhere =
    let U : State → Type 0 = λ x. IsUntouched (settled s) (settled x) n in
    subst U (sym does.1) (set_mode s k lib n r row ino mode (row_at s.home ino) (mode_fault s lib ino mode (row_at s.home ino)) refl refl (subst (IsElsewhere n (SetMode lib ino mode)) does.0 elsewhere))
