-- What is lent for writing or out by allotment is absent from home, in each state of a run.
use Rattle.trio_laws.proofs.Words.{◌++◌, ◌<◌, ◌∙◌, ◌∷◌, ◌≡◌, ◌⊎◌, Allot, Back, Bundle, Core, CtlAnswer, Ends, GivenTo, Grant, GrantFault, GrantKind, Image, In, In-cases, Kept, List, ModeFault, None, OpenGrant, Option, Pages, Release, ReleaseEnd, Row, SetMode, Settle, Some, State, Write, [], allots, among_cases, and_parts, ap, arith, body_put, body_with_mode, checkpoints_of, false≢true, filter-In, free_unlisted, given_back, grant_fault, granted_to, inl, inr, is_among-In, is_core, is_out-given, is_some, leb, length, length-with_pages, length-without, lent_pages, lib_at-none_out, listed_is_core, ltb, ltb-true, mode_fault, moded_to, opened, opens, option_map, place_there, plain, row_at, settled, settled_body, sheet_numbers, slice_get, start, subst, sym, true, within_some, without_apart, without_pages, without_there, ℕ}
use Rattle.trio_laws.specs.OutLaws.{AllAway, AwayIsExact, EveryStateIsAway, IsLentOrOut, StartsAway, StepKeepsAway}
use Rattle.trio_laws.proofs.Allots.{ns, ps}
use Rattle.trio_laws.proofs.Bundles.{bundle_page, outside_unwritten, unwritten_apart, written_lent}
use Rattle.trio_laws.proofs.Cases.{after_allot, after_no_grant, after_no_mode, trace_keeps}
use Rattle.trio_laws.proofs.Ended.{grant_before, outs_then}
use Rattle.trio_laws.proofs.Modes.{body_put-get}
use Rattle.trio_laws.proofs.Runs.{start_kept, step_kept}
use Rattle.trio_laws.proofs.StateFacts.{by_lent, lent_by, lent_met, tables}

-- a page that is taken, or was absent, is absent once these are taken
taken : (ns : List ℕ) (pages : Pages) (p : ℕ) → p < length (without_pages ns pages) → In p ns ⊎ (slice_get pages p ≡ Some None) → slice_get (without_pages ns pages) p ≡ Some None
taken ns pages p l h =
    let o = place_there pages p (subst (λ n. p < n) (length-without ns pages) l) in
    search (arith, among_cases, without_there, without_apart)

put_away : (o : Option Row) (body : List ℕ) (pages : Pages) (p : ℕ) → slice_get pages p ≡ Some None → slice_get (body_put o body pages) p ≡ Some None
put_away None body pages p gone = gone
put_away (Some r) body pages p gone = (let f = body_put-get r body pages p in f.1 ∙ ap (option_map (option_map f.0)) gone)

-- what is lent or out has its place at home
within : (s : State) → Kept s → (p : ℕ) → IsLentOrOut s p → p < length s.home.core.pages
within s k p h =
    let core : Core = (settled s).core in
    let long = k.fit.long in
    let count = length-with_pages (checkpoints_of s.open_grants) s.home.core.pages in
    elim h [
      | inl lent ↦
          let g = lent_by s.open_grants p lent in
          let l = k.lent g.0 g.1 g.2 in
          let c : is_core core.range p ≡ true = listed_is_core core l.met l.file p l.read (lent_met s k g.0 g.1 g.2 p g.3) in
          let below : p < core.range.end = ltb-true p core.range.end (and_parts (leb core.range.first p) (ltb p core.range.end) c).1 in
          omega (arith, below, long, count)
      | inr out ↦ search (arith, within_some)
    ]

opens_away : (s : State) (g : OpenGrant) → Kept (opens s g) → AllAway s → AllAway (opens s g)
opens_away s g k' a p h = taken (lent_pages g) s.home.core.pages p (within (opens s g) k' p h) (by h)
  where
    by : IsLentOrOut (opens s g) p → In p (lent_pages g) ⊎ (slice_get s.home.core.pages p ≡ Some None)
    by (inr out) = inr (a p (inr out))
    by (inl lent) =
        let x = lent_by (s.open_grants ++ g ∷ []) p lent in
        elim (In-cases x.0 s.open_grants (g ∷ []) x.1) [
          | inl old ↦ inr (a p (inl (by_lent s.open_grants x.0 p old x.2 x.3)))
          | inr new ↦ search arith
        ]

granted : (s : State) (lib ino : ℕ) (kind : GrantKind) (f : Option GrantFault) (o : Option Row) → AllAway s → Kept (granted_to s lib ino kind f o).after → AllAway (granted_to s lib ino kind f o).after
granted s lib ino kind (Some f) o a k' = after_no_grant AllAway s f a a
granted s lib ino kind None None a k' = a
granted s lib ino kind None (Some r) a k' = opens_away s (opened s lib ino kind r) k' a

allotted : (s : State) (lib count many : ℕ) → AllAway s → Kept (allots s lib (ps s lib count many) (ns s lib count many)) → AllAway (allots s lib (ps s lib count many) (ns s lib count many))
allotted s lib count many a k' p h =
    taken (ps s lib count many) s.home.core.pages p (within (allots s lib (ps s lib count many) (ns s lib count many)) k' p h)
    (elim h [
      | inl lent ↦ inr (a p (inl lent))
      | inr out ↦ search (arith, is_out-given, is_among-In)
    ])

back : (s : State) (lib ino : ℕ) → AllAway s → AllAway (given_back s lib ino)
back s lib ino a p h = search (arith, lent_by, filter-In, by_lent)

moded : (s : State) (ino mode : ℕ) (f : Option ModeFault) → AllAway s → AllAway (moded_to s ino mode f).after
moded s ino mode (Some f) a = after_no_mode AllAway s f a a
moded s ino mode None a = λ p h. put_away (row_at s.home ino) (body_with_mode mode (settled_body s.home ino)) s.home.core.pages p (a p h)

-- what stays lent or out is none of the bundle's
module _ (s s' : State) (k : Kept s) (lib : ℕ) (b : Bundle) (given : GivenTo s lib b) (image : Image) (e : Ends s lib b image s') where
  ended : AllAway s → AllAway s'
  ended a p (inl lent) =
      let g = lent_by s'.open_grants p lent in
      let h = grant_before s s' k lib b given image e g.0 g.1 in
      let kind : h.0.kind ≡ Write = ap (λ (x : OpenGrant). x.kind) (sym h.3) ∙ g.2 in
      let mine : In p (sheet_numbers (h.0.index ++ h.0.blocks)) = subst (λ l. In p l) (ap (λ (x : OpenGrant). sheet_numbers (x.index ++ x.blocks)) h.3) g.3 in
      let l = k.lent h.0 h.1 kind in
      e.away p (a p (inl (by_lent s.open_grants h.0 p h.1 kind mine)))
      (unwritten_apart s k lib b given l.met p l.stands
      (λ w i same. outside_unwritten s k lib b given h.0 h.1 h.2 w i (same ∙ l.number))
      (lent_met s k h.0 h.1 kind p mine))
  ended a p (inr out) =
      let was = outs_then s s' k lib b given image e p out in
      e.away p (a p (inr was.0))
      (λ i.
      elim (bundle_page s k lib b given p i) [
        | inl own ↦ was.1 own
        | inr w ↦
            let g = given.writes w.0 w.1 in
            let l = k.lent g.grant g.is_open g.kind in
            free_unlisted (settled s).core plain k.fit k.verifies.sound (settled s) (tables s k) p (k.out_free p was.0) l.met l.stands
            (lent_met s k g.grant g.is_open g.kind p (written_lent s k lib b given w.0 w.1 p w.2))
      ])

released : (s s' : State) (k : Kept s) (lib : ℕ) (b : Bundle) (answer : CtlAnswer) → GivenTo s lib b → ReleaseEnd s lib b answer s' → AllAway s → AllAway s'
released s s' k lib b answer given h a = search (arith, ended)

pub starts_away : StartsAway
starts_away image creds p (inl lent) = absurd (false≢true lent)
starts_away image creds p (inr out) = absurd (false≢true (sym (ap is_some (lib_at-none_out image.core.range.end p)) ∙ out))

pub step_keeps_away : StepKeepsAway
step_keeps_away s event answer s' k given (inr none) a = subst AllAway (sym none.2) a
step_keeps_away s (Grant lib ino kind) answer s' k given (inl d) a =
    subst AllAway (sym d.1)
    (granted s lib ino kind (grant_fault s lib ino kind) (row_at s.home ino) a (subst Kept d.1 (step_kept s s' (Grant lib ino kind) answer k given (inl d))))
step_keeps_away s (Allot lib count many) answer s' k given (inl d) a =
    subst AllAway (sym d.1)
    (after_allot (λ x. Kept x → AllAway x) s lib count many (λ k'. a) (allotted s lib count many a) (subst Kept d.1 (step_kept s s' (Allot lib count many) answer k given (inl d))))
step_keeps_away s (Back lib ino) answer s' k given (inl d) a = subst AllAway (sym d.1) (back s lib ino a)
step_keeps_away s (Release lib b) answer s' k given (inl d) a = released s s' k lib b answer given d a
step_keeps_away s (Settle lib b) answer s' k given (inl d) a = ended s s' k lib b given.0 _ d.3 a
step_keeps_away s (SetMode lib ino mode) answer s' k given (inl d) a = subst AllAway (sym d.1) (moded s ino mode (mode_fault s lib ino mode (row_at s.home ino)) a)

pub away_is_exact : AwayIsExact
away_is_exact s k a p c = (λ gone. k.absent p gone c, a p)

pub every_state_is_away : EveryStateIsAway
every_state_is_away run =
    let first : Kept (start run.image run.creds) × AllAway (start run.image run.creds) = (start_kept run.image run.creds run.fit run.verifies run.whole, starts_away run.image run.creds) in (
      away_is_exact (start run.image run.creds) first.0 first.1,
      λ m i.
          let r = trace_keeps (λ s. Kept s × AllAway s)
          (λ s event answer s' was given step. (step_kept s s' event answer was.0 given step, step_keeps_away s event answer s' was.0 given step was.1))
          (start run.image run.creds) run.moves first run.trace m i in
          (away_is_exact m.before r.0.0 r.0.1, away_is_exact m.after r.1.0 r.1.1),
    )
