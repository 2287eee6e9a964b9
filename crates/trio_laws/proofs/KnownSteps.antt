-- What is known of a state determines what is known after each step, and the answer.
use Rattle.trio_laws.proofs.Words.{◌++◌, ◌∙◌, ◌∷◌, ◌≡◌, ◌≢◌, Accepted, Allot, Back, Bool, Bundle, CtlAnswer, Does, Ends, Event, Given, Grant, GrantFault, GrantKind, Hold, Image, In, IsAccepted, IsRefused, Kept, Known, List, ModeFault, NoInodes, NoMemory, NoPages, None, NotClosed, OpenGrant, Option, Outcome, Pages, Parted, Read, Refused, Release, ReleaseEnd, Row, SetMode, Settle, Settled, Sheet, Some, State, Step, Why, Write, [], after_grant_fault, after_mode_fault, allot_outcome, allots, ap, append-nil, arith, case_in, case_of, cond, creds_of, denied_by, excluding, false, false≢true, filter, filter-map, flat_map, flat_map-append, free_numbers, free_pages, given_back, grant_fault, grant_outcome, granted_to, has_parent_grant, holder_of, inl, inr, is_accepted, known, lacks_parent, length, lent_pages, lent_part, list_any-map, logged, ltb, map-append, mode_excluding, mode_fault, mode_outcome, moded_to, opened, opens, option_map, pages_are, pages_of, parted_hold, refl, row_at, row_by, settled, sheet_numbers, slice_get, subst, sym, take, told_children, true, with_core_pages, with_pages, with_pages-append, without_checkpoint, without_pages, ℕ}
use Rattle.std.proofs.Common.{map}
use Rattle.trio_nodes.specs.declared.answers.GrantFault.TheVariants.{Busy}
use Rattle.trio_nodes.specs.declared.answers.ModeFault.TheVariants.{Busy as ModeBusy}
use Rattle.trio_state.specs.Grants.{opened_in}
use Rattle.trio_state.specs.Step.{Done}
use Rattle.trio_state.specs.Tells.{place_of}
use Rattle.trio_laws.specs.Known.{plain_state, ended, released, known_done, is_no_memory, StepsAreKnown, KnownDecides, refused_rule, SameAnswer, SameEventSameAnswer}
use Rattle.trio_laws.proofs.StateFacts.{live_met, checkpoint_lent, lent_file}
use Rattle.trio_laws.proofs.WriteGrant.{lent_numbers}
use Rattle.trio_laws.proofs.Grants.{excluded_none}
use Rattle.trio_laws.proofs.Backs.{settled_back}
use Rattle.trio_laws.proofs.Modes.{with_pages_set, may_change, settled_moded}
use Rattle.trio_laws.proofs.StateLaws.{does_told}
use Rattle.trio_laws.proofs.judgement.Breaking.{breaks_lowest, lowest_rule}
use Rattle.trio_laws.proofs.Allots.{uncovered'}

-- ---- lists

-- the sheets of the checkpoints of grants
abbrev sheets : List OpenGrant → List Sheet
sheets gs = flat_map (λ g. g.checkpoint) gs

abbrev bare : List OpenGrant → List OpenGrant
bare gs = map without_checkpoint gs

bare-bare : (gs : List OpenGrant) → bare (bare gs) ≡ bare gs
bare-bare [] = refl
bare-bare (g ∷ gs) = ap (λ l. without_checkpoint g ∷ l) (bare-bare gs)

bare-part : (gs : List OpenGrant) → bare (map lent_part gs) ≡ bare gs
bare-part [] = refl
bare-part (g ∷ gs) = ap (λ l. without_checkpoint g ∷ l) (bare-part gs)

sheets-bare : (gs : List OpenGrant) → sheets (bare gs) ≡ []
sheets-bare [] = refl
sheets-bare (g ∷ gs) = sheets-bare gs

inos-bare : (gs : List OpenGrant) → map (λ (g : OpenGrant). g.ino) (bare gs) ≡ map (λ (g : OpenGrant). g.ino) gs
inos-bare [] = refl
inos-bare (g ∷ gs) = ap (λ l. g.ino ∷ l) (inos-bare gs)

-- a test that doesn't read checkpoints
filter-bare : (p : OpenGrant → Bool) (gs : List OpenGrant)
    → filter p (bare gs) ≡ bare (filter (λ g. p (without_checkpoint g)) gs)
filter-bare p gs = filter-map without_checkpoint p gs

-- what is told of the first grant, but for its checkpoint
first-bare : {X : Type 0} (f : OpenGrant → X) → ((g : OpenGrant) → f (without_checkpoint g) ≡ f g)
    → (gs : List OpenGrant) → option_map f (slice_get (bare gs) 0) ≡ option_map f (slice_get gs 0)
first-bare f same [] = refl
first-bare f same (g ∷ gs) = ap Some (same g)

abbrev busy_of : OpenGrant → GrantFault
busy_of g = Busy (holder_of g)

abbrev mode_busy_of : OpenGrant → ModeFault
mode_busy_of g = ModeBusy (holder_of g)

-- pages that no sheet is put at can be taken out before or after
with_pages-without_pages : (ss : List Sheet) (ns : List ℕ) (pages : Pages)
    → ((n : ℕ) → In n ns → In n (sheet_numbers ss) → ⊥)
    → with_pages ss (without_pages ns pages) ≡ without_pages ns (with_pages ss pages)
with_pages-without_pages ss [] pages apart = refl
with_pages-without_pages ss (n ∷ ns) pages apart =
    with_pages-without_pages ss ns _ (λ m i. apart m (inr i))
    ∙ ap (without_pages ns) (with_pages_set ss pages n None (apart n (inl refl)))

known_same : (s t : State) → settled s ≡ settled t → bare s.open_grants ≡ bare t.open_grants
    → s.pages_out ≡ t.pages_out → s.numbers_out ≡ t.numbers_out → s.creds ≡ t.creds → s.entries ≡ t.entries
    → known s ≡ known t
known_same s t a b c d e f = search arith

-- ---- a state, and the plain state of what is known of it

module _ (s : State) where
  abbrev t : State
  t = plain_state (known s)

  abbrev J : Pages → Image
  J pages = with_core_pages s.home pages

  pub settled_plain : settled t ≡ settled s
  settled_plain = ap (λ ss. J (with_pages ss (settled s).core.pages)) (sheets-bare s.open_grants)

  pub known_plain : known t ≡ known s
  known_plain = known_same t s settled_plain (bare-bare s.open_grants) refl refl refl refl

  pub known_logged : known (logged t) ≡ known (logged s)
  known_logged = known_same (logged t) (logged s) settled_plain (bare-bare s.open_grants) refl refl refl refl

  parent_grant_plain : (lib : ℕ) (o : Option Row) → has_parent_grant t lib o ≡ has_parent_grant s lib o
  parent_grant_plain lib o = search (arith, list_any-map)

  denied_plain : (lib ino : ℕ) (kind : GrantKind) → denied_by t lib ino kind ≡ denied_by s lib ino kind
  denied_plain lib ino kind = search arith

  lacks_plain : (lib ino : ℕ) (kind : GrantKind) → lacks_parent t lib ino kind ≡ lacks_parent s lib ino kind
  lacks_plain lib ino kind = search (arith, parent_grant_plain)

  busy_plain : (lib ino : ℕ) (kind : GrantKind)
      → option_map busy_of (slice_get (excluding t lib ino kind) 0)
      ≡ option_map busy_of (slice_get (excluding s lib ino kind) 0)
  busy_plain lib ino kind = search (arith, filter-bare, first-bare)

  pub grant_fault_plain : (lib ino : ℕ) (kind : GrantKind) → grant_fault t lib ino kind ≡ grant_fault s lib ino kind
  grant_fault_plain lib ino kind = search (arith, denied_plain, lacks_plain, busy_plain)

  pub opened_plain : (lib ino : ℕ) (kind : GrantKind) (r : Row) → opened t lib ino kind r ≡ opened s lib ino kind r
  opened_plain lib ino kind r = ap (λ image. opened_in image s.entries lib ino kind r) settled_plain

  pub parted_plain : (lib : ℕ) (b : Bundle) → parted_hold t lib b ≡ parted_hold s lib b
  parted_plain lib b = search (arith, filter-bare, inos-bare)

  told_plain : (ino : ℕ) (kind : GrantKind) → told_children t.home ino kind ≡ told_children s.home ino kind
  told_plain ino kind = search arith

  mode_busy_plain : (ino : ℕ) (r : Row)
      → option_map mode_busy_of (mode_excluding t ino r) ≡ option_map mode_busy_of (mode_excluding s ino r)
  mode_busy_plain ino r = search (arith, filter-bare, first-bare)

  mode_fault_plain : (lib ino mode : ℕ) (o : Option Row) → mode_fault t lib ino mode o ≡ mode_fault s lib ino mode o
  mode_fault_plain lib ino mode o = search (arith, mode_busy_plain)

  -- ---- what each call comes to

  after_fault : (f : GrantFault) → known (after_grant_fault t f) ≡ known (after_grant_fault s f)
  after_fault f = search (arith, known_logged, known_plain)

  -- what a grant lends for writing is under no checkpoint
  opens_plain : (g : OpenGrant) → ((n : ℕ) → In n (lent_pages g) → In n (sheet_numbers (sheets s.open_grants)) → ⊥)
      → known (opens t g) ≡ known (opens s g)
  opens_plain g apart =
      let ck : List Sheet = sheets s.open_grants in
      let end : (gs : List OpenGrant) → sheets (gs ++ g ∷ []) ≡ sheets gs ++ g.checkpoint = search (arith, flat_map-append, append-nil) in
      let a : settled (opens t g) ≡ J (with_pages g.checkpoint (without_pages (lent_pages g) (with_pages ck s.home.core.pages))) = search (arith, sheets-bare) in
      let b : settled (opens s g) ≡ J (with_pages g.checkpoint
      (without_pages (lent_pages g) (with_pages ck s.home.core.pages))) =
      ap (λ ss. J (with_pages ss (without_pages (lent_pages g) s.home.core.pages))) (end s.open_grants)
      ∙ ap J (with_pages-append ck g.checkpoint (without_pages (lent_pages g) s.home.core.pages))
      ∙ ap (λ ps. J (with_pages g.checkpoint ps)) (with_pages-without_pages ck
      (lent_pages g) s.home.core.pages apart) in
      search (arith, known_same, map-append, bare-bare)

module _ (s : State) (k : Kept s) where
  abbrev u : State
  u = plain_state (known s)

  -- a file on which no grant is open has no page under a checkpoint
  uncovered_lent : (lib ino : ℕ) (r : Row) → grant_fault s lib ino Write ≡ None → row_at s.home ino ≡ Some r
      → (n : ℕ) → In n (lent_pages (opened s lib ino Write r)) → In n (sheet_numbers (sheets s.open_grants)) → ⊥
  uncovered_lent lib ino r e row =
      let m = live_met s k ino r row in
      let free : (g : OpenGrant) → In g s.open_grants → g.ino ≡ m.met.ino → ⊥ =
      λ g i same. false≢true (sym (excluded_none s lib ino Write e g i (same ∙ m.number))) in
      let P : ℕ → Row → Type 0 = λ i q. (n : ℕ) → In n (lent_pages (opened s lib i Write q))
      → In n (sheet_numbers (sheets s.open_grants)) → ⊥ in
      let a : P m.met.ino (row_by m.met m.file.body) =
      λ n i j.
      let q = checkpoint_lent s k n j in
      let mine : In n (pages_of (settled s).core m.met) =
      subst (λ l. In n l) (lent_numbers s k lib m.met m.file m.stands m.read free
      ∙ sym (pages_are (settled s).core m.met m.file m.read)) i in
      free q.0 q.1 (lent_file s k m.met n q.0 m.stands mine q.1 q.2 q.3) in
      subst (λ q. P ino q) (sym m.row) (subst (λ i. P i (row_by m.met m.file.body)) m.number a)

  opening : (lib ino : ℕ) (kind : GrantKind) (r : Row) → grant_fault s lib ino kind ≡ None
      → row_at s.home ino ≡ Some r → known (opens u (opened s lib ino kind r))
      ≡ known (opens s (opened s lib ino kind r))
  opening lib ino Read r e row = (let g : OpenGrant = opened s lib ino Read r in opens_plain s g (λ n i j. i))
  opening lib ino Hold r e row = (let g : OpenGrant = opened s lib ino Hold r in opens_plain s g (λ n i j. i))
  opening lib ino Write r e row = (let g : OpenGrant =
      opened s lib ino Write r in opens_plain s g (uncovered_lent lib ino r e row))

  granting : (lib ino : ℕ) (kind : GrantKind) (f : Option GrantFault) (o : Option Row)
      → grant_fault s lib ino kind ≡ f → row_at s.home ino ≡ o
      → known (granted_to u lib ino kind f o).after ≡ known (granted_to s lib ino kind f o).after
  granting lib ino kind f o e row = search (arith, after_fault, known_plain, opened_plain, opening)

  granting_answer : (lib ino : ℕ) (kind : GrantKind) (f : Option GrantFault) (o : Option Row)
      → (granted_to u lib ino kind f o).answer ≡ (granted_to s lib ino kind f o).answer
  granting_answer lib ino kind f o = search (arith, told_plain)

  -- what is allotted, by what is free in s, by whether there are too few pages or numbers
  abbrev allot_by : (lib count many : ℕ) → State → Bool → Bool → Outcome
  allot_by lib count many x few_pages few_numbers =
      cond few_pages (record { answer = NoPages count (length (free_pages s)); after = logged x })
      (cond few_numbers (record { answer = NoInodes many (length (free_numbers s)); after = logged x }) (record {
        answer = Given (take count (free_pages s)) (take many (free_numbers s));
        after = allots x lib (take count (free_pages s)) (take many (free_numbers s));
      }))

  allotting : (lib count many : ℕ)
      → (known (allot_outcome u lib count many).after ≡ known (allot_outcome s lib count many).after)
      × ((allot_outcome u lib count many).answer ≡ (allot_outcome s lib count many).answer)
  allotting lib count many = either (ltb (length (free_pages s)) count) (ltb (length (free_numbers s)) many)
    where
      either : (a b : Bool)
          → (known (allot_by lib count many u a b).after ≡ known (allot_by lib count many s a b).after)
          × ((allot_by lib count many u a b).answer ≡ (allot_by lib count many s a b).answer)
      either true b = (known_logged s, refl)
      either false true = (known_logged s, refl)
      either false false =
          let ps : List ℕ = take count (free_pages s) in
          let ns : List ℕ = take many (free_numbers s) in
          let ck : List Sheet = sheets s.open_grants in
          let image : settled (allots u lib ps ns) ≡ settled (allots s lib ps ns) =
          ap (λ ss. J s (with_pages ss (without_pages ps (with_pages ck s.home.core.pages))))
          (sheets-bare s.open_grants)
          ∙ ap (J s)
          (sym (with_pages-without_pages ck ps s.home.core.pages (λ n i j. uncovered' s lib count many k n i j))) in
          let same = bare-bare s.open_grants in
          (known_same (allots u lib ps ns) (allots s lib ps ns) image same refl refl refl refl, refl)

  giving_back : (lib ino : ℕ) → known (given_back u lib ino) ≡ known (given_back s lib ino)
  giving_back lib ino = search (arith, filter-bare, sheets-bare, known_same, settled_back, bare-bare)

  after_no_mode : (f : ModeFault) → known (after_mode_fault u f) ≡ known (after_mode_fault s f)
  after_no_mode f = search (arith, known_logged, known_plain)

  moding : (lib ino mode : ℕ) (o : Option Row) (f : Option ModeFault) → row_at s.home ino ≡ o
      → mode_fault s lib ino mode o ≡ f → known (moded_to u ino mode f).after ≡ known (moded_to s ino mode f).after
  moding lib ino mode o f row e = search (arith, after_no_mode, may_change, settled_moded, sheets-bare, known_same, bare-bare)

  moding_answer : (ino mode : ℕ) (f : Option ModeFault)
      → (moded_to u ino mode f).answer ≡ (moded_to s ino mode f).answer
  moding_answer ino mode f = search arith

  ending : (s' : State) (lib : ℕ) (b : Bundle) (image : Image) → Ends s lib b image s'
      → known s' ≡ ended (known s) lib b image
  ending s' lib b image e = search (arith, bare-part, filter-bare)

  -- the ways in which a release ends
  releasing : (lib : ℕ) (b : Bundle) (answer : CtlAnswer) (s' : State) → ReleaseEnd s lib b answer s'
      → known s' ≡ released (known s) lib b (parted_hold u lib b)
  releasing lib b answer s' h = search (arith, parted_plain, ending)

  doing : (event : Event) (answer : CtlAnswer) (s' : State) → Does s event answer s'
      → known s' ≡ known_done (known s) event
  doing (Grant lib ino kind) answer s' d =
      ap known d.1
      ∙ sym (granting lib ino kind (grant_fault s lib ino kind) (row_at s.home ino) refl refl)
      ∙ ap (λ f. known (granted_to u lib ino kind f (row_at s.home ino)).after) (sym (grant_fault_plain s lib ino kind))
  doing (Allot lib pages numbers) answer s' d = ap known d.1 ∙ sym (allotting lib pages numbers).0
  doing (Back lib ino) answer s' d = ap known d.1 ∙ sym (giving_back lib ino)
  doing (Release lib b) answer s' d = releasing lib b answer s' d
  doing (Settle lib b) answer s' d = ending s' lib b _ d.3
  doing (SetMode lib ino mode) answer s' d = search (arith, granting, grant_fault_plain, allotting, giving_back, releasing, ending, moding, mode_fault_plain)

other_answer : (answer : CtlAnswer) → answer ≢ NoMemory → is_no_memory answer ≡ false
other_answer answer other = search arith

pub steps_are_known : StepsAreKnown
steps_are_known s event answer s' k h = search (arith, doing, other_answer, does_told)

pub known_decides : KnownDecides
known_decides s = search (arith, settled_plain, grant_fault_plain, opened_plain, parted_plain)

-- ---- answers

-- a cause that names this rule
abbrev naming : ℕ → Why
naming rule = record { rule = rule; ino = 0; page = 0; slot = 0 }

-- the lowest rule that a bundle breaks
abbrev known_rule : Known → ℕ → Bundle → ℕ
known_rule k lib b = lowest_rule (case_in (plain_state k) lib b)

-- the answer to a release by its lowest hold that is parted
abbrev release_answer : Known → ℕ → Bundle → Option ℕ → CtlAnswer
release_answer k lib b (Some n) = NotClosed n
release_answer k lib b None =
    cond (is_accepted k.image (creds_of (plain_state k) lib) b) Accepted (Refused (naming (known_rule k lib b)))

-- the answer to an event, where memory is there
abbrev known_answer : Known → Event → CtlAnswer
known_answer k (Grant lib ino kind) = (grant_outcome (plain_state k) lib ino kind).answer
known_answer k (Allot lib pages numbers) = (allot_outcome (plain_state k) lib pages numbers).answer
known_answer k (Back lib ino) = Done
known_answer k (Release lib b) = release_answer k lib b (parted_hold (plain_state k) lib b)
known_answer k (Settle lib b) = Settled
known_answer k (SetMode lib ino mode) = (mode_outcome (plain_state k) lib ino mode).answer

same_joined : (a b c : CtlAnswer) → SameAnswer a c → SameAnswer b c → SameAnswer a b
same_joined a b c h i = search arith

released_answer : (s s' : State) (lib : ℕ) (b : Bundle) (answer : CtlAnswer) → ReleaseEnd s lib b answer s'
    → SameAnswer answer (known_answer (known s) (Release lib b))
released_answer s s' lib b answer (Parted n some a same) =
    inl (a ∙ ap (release_answer (known s) lib b) (sym (parted_plain s lib b ∙ some)))
released_answer s s' lib b answer (IsAccepted none sure a e) = search (arith, parted_plain, settled_plain, breaks_lowest)
released_answer s s' lib b answer (IsRefused none not_so why a tells e) =
    let rule : ℕ = known_rule (known s) lib b in
    let is : Refused (naming rule) ≡ known_answer (known s) (Release lib b) = search (arith, parted_plain) in
    let same : case_in s lib b ≡ case_in (plain_state (known s)) lib b =
    ap (λ image. case_of image (creds_of s lib) b) (sym (settled_plain s)) in
    let named : why.rule ≡ rule =
    breaks_lowest (case_in s lib b) why.rule why.ino (place_of why) tells ∙ ap lowest_rule same in
    inr (rule, ap refused_rule a ∙ ap Some named, sym (ap refused_rule is))

does_answer : (s : State) (k : Kept s) (event : Event) (answer : CtlAnswer) (s' : State) → Does s event answer s'
    → SameAnswer answer (known_answer (known s) event)
does_answer s k (Grant lib ino kind) answer s' d = search (arith, granting_answer, grant_fault_plain, allotting, released_answer, moding_answer, mode_fault_plain)
does_answer s k (Allot lib pages numbers) answer s' d = inl (d.0 ∙ sym ((allotting s k lib pages numbers).1))
does_answer s k (Back lib ino) answer s' d = inl d.0
does_answer s k (Release lib b) answer s' d = released_answer s s' lib b answer d
does_answer s k (Settle lib b) answer s' d = inl d.0
does_answer s k (SetMode lib ino mode) answer s' d = search (arith, granting_answer, grant_fault_plain, allotting, released_answer, moding_answer, mode_fault_plain)

-- a step with memory there
step_does : (s : State) (event : Event) (answer : CtlAnswer) (s' : State) → Step s event answer s' → answer ≢ NoMemory
    → Does s event answer s'
step_does s event answer s' h other = search arith

pub same_event_same_answer : SameEventSameAnswer
same_event_same_answer s t event a b s' t' k l same one two some_a some_b =
    let d = step_does s event a s' one some_a in
    let e = step_does t event b t' two some_b in
    let answer : SameAnswer b (known_answer (known s) event) =
    subst (λ x. SameAnswer b (known_answer x event)) (sym same) (does_answer t l event b t' e) in (
      same_joined a b (known_answer (known s) event) (does_answer s k event a s' d) answer,
      doing s k event a s' d ∙ ap (λ x. known_done x event) same ∙ sym (doing t l event b t' e),
    )
