-- The bodies of files at their places, page by page.
use Rattle.trio_surveys.proofs.Words.{◌<◌, ◌∙◌, ◌∷◌, ◌≡◌, ◌⊎◌, Bool, Core, In, List, Met, None, Option, [], ap, arith, body_in_slot, cases_eq, cond, eq-eqb, eqb, false, inl, inr, length, ne_eqb, option_and_then, option_map, page_of, refl, slice_get, slice_index_or, slice_set, subst, sym, true, with_bodies, with_body_in, with_other, ℕ}
use Rattle.trio_surveys.proofs.SheetLaws.{page_at, page_of_at, get-set_same, get-set_other}
use Rattle.trio_surveys.proofs.Slots.{front_in_slot, with_body-length, with_body-front, with_body-body, with_body-other}

-- the bytes of one page with the bodies whose places are in it
abbrev pub put_on : ℕ → List Met → List ℕ → List ℕ
put_on p [] bytes = bytes
put_on p (m ∷ ms) bytes = put_on p ms (cond (eqb m.page p) (with_body_in m.slot m.body bytes) bytes)

here_put : (p : ℕ) (m : Met) (ms : List Met) (o : Option (Option (List ℕ))) → eqb m.page p ≡ true → option_map (option_map (put_on p ms)) (option_map (λ _. option_map (with_body_in m.slot m.body) (option_and_then (λ x. x) o)) o) ≡ option_map (option_map (put_on p (m ∷ ms))) o
here_put p m ms o e = search arith

there_put : (p : ℕ) (m : Met) (ms : List Met) (o : Option (Option (List ℕ))) → eqb m.page p ≡ false → option_map (option_map (put_on p ms)) o ≡ option_map (option_map (put_on p (m ∷ ms))) o
there_put p m ms o e = search arith

pub with_bodies-get : (p : ℕ) (ms : List Met) (pages : List (Option (List ℕ))) → ((m : Met) → In m ms → m.ino ≡ 1 → ⊥) → slice_get (with_bodies ms pages) p ≡ option_map (option_map (put_on p ms)) (slice_get pages p)
with_bodies-get p [] pages h = search (arith, slice_index_or, ne_eqb, cases_eq, eq-eqb, get-set_same, page_at, here_put, get-set_other, there_put)
with_bodies-get p (m ∷ ms) pages h =
    let X : Option (List ℕ) = option_map (with_body_in m.slot m.body) (slice_index_or pages m.page None) in
    let no_root : eqb m.ino 1 ≡ false = ne_eqb m.ino 1 (h m (inl refl)) in
    let ih = with_bodies-get p ms (slice_set pages m.page X) (λ x k. h x (inr k)) in
    ap (λ b. slice_get (with_bodies ms (cond b pages (slice_set pages m.page X))) p) no_root
    ∙ ih
    ∙ elim (cases_eq m.page p) [
      | inl same ↦
          let e : eqb m.page p ≡ true = eq-eqb m.page p same in
          let here = ap (λ k. slice_get (slice_set pages m.page X) k) (sym same) ∙ get-set_same pages m.page X
          ∙ ap (λ o. option_map (λ _. option_map (with_body_in m.slot m.body) o) (slice_get pages m.page)) (page_at pages m.page) in
          ap (option_map (option_map (put_on p ms))) here ∙ here_put p m ms (slice_get pages m.page) e ∙ ap (λ k. option_map (option_map (put_on p (m ∷ ms))) (slice_get pages k)) same
      | inr differ ↦
          let e : eqb m.page p ≡ false = ne_eqb m.page p differ in
          ap (option_map (option_map (put_on p ms))) (get-set_other pages m.page p X e) ∙ there_put p m ms (slice_get pages p) e
    ]

page_put : (b : Bool) (f : List ℕ → List ℕ) (o : Option (Option (List ℕ))) → cond b (option_and_then (λ x. x) (option_map (option_map f) o)) None ≡ option_map f (cond b (option_and_then (λ x. x) o) None)
page_put b f o = search arith

pub page_of-bodies : (core : Core) (p : ℕ) (ms : List Met) → ((m : Met) → In m ms → m.ino ≡ 1 → ⊥) → page_of (with_other core (with_bodies ms core.pages)) p ≡ option_map (put_on p ms) (page_of core p)
page_of-bodies core p ms h = search (arith, page_of_at, with_bodies-get, page_put)

-- a page without a place stays
pub put_on-none : (p : ℕ) (ms : List Met) (bytes : List ℕ) → ((m : Met) → In m ms → m.page ≡ p → ⊥) → put_on p ms bytes ≡ bytes
put_on-none p [] bytes h = refl
put_on-none p (m ∷ ms) bytes h =
    ap (λ b. put_on p ms (cond b (with_body_in m.slot m.body bytes) bytes)) (ne_eqb m.page p (h m (inl refl)))
    ∙ put_on-none p ms bytes (λ x k. h x (inr k))

-- places are slots of a page, and bodies have 64 bytes
abbrev pub ArePlaced : List Met → Type 0
ArePlaced ms = (m : Met) → In m ms → (m.slot < 16) × (length m.body ≡ 64)

-- one body more: what stays and what is there
one_length : (p : ℕ) (m : Met) (bytes : List ℕ) → length bytes ≡ 4096 → m.slot < 16 → length m.body ≡ 64 → length (cond (eqb m.page p) (with_body_in m.slot m.body bytes) bytes) ≡ 4096
one_length p m bytes full l k = search (arith, with_body-length)

one_front : (p s : ℕ) (m : Met) (bytes : List ℕ) → length bytes ≡ 4096 → m.slot < 16 → length m.body ≡ 64 → front_in_slot s (cond (eqb m.page p) (with_body_in m.slot m.body bytes) bytes) ≡ front_in_slot s bytes
one_front p s m bytes full l k = search (arith, with_body-front)

pub put_on-length : (p : ℕ) (ms : List Met) (bytes : List ℕ) → ArePlaced ms → length bytes ≡ 4096 → length (put_on p ms bytes) ≡ 4096
put_on-length p [] bytes h full = full
put_on-length p (m ∷ ms) bytes h full =
    let pl = h m (inl refl) in put_on-length p ms _ (λ x k. h x (inr k)) (one_length p m bytes full pl.0 pl.1)

-- the entry parts stay
pub put_on-front : (p s : ℕ) (ms : List Met) (bytes : List ℕ) → ArePlaced ms → length bytes ≡ 4096 → front_in_slot s (put_on p ms bytes) ≡ front_in_slot s bytes
put_on-front p s [] bytes h full = refl
put_on-front p s (m ∷ ms) bytes h full =
    let pl = h m (inl refl) in
    put_on-front p s ms (cond (eqb m.page p) (with_body_in m.slot m.body bytes) bytes) (λ x k. h x (inr k)) (one_length p m bytes full pl.0 pl.1)
    ∙ one_front p s m bytes full pl.0 pl.1

-- the body stands in the slot already, or one of the files brings it
abbrev Comes : ℕ → ℕ → List Met → List ℕ → List ℕ → Type 0
Comes p s ms bytes body =
    (body_in_slot s bytes ≡ body) ⊎ ((c : Met) × In c ms × (c.page ≡ p) × (c.slot ≡ s))

one_comes : (p s : ℕ) (m : Met) (ms : List Met) (bytes body : List ℕ) → length bytes ≡ 4096 → m.slot < 16 → length m.body ≡ 64 → (m.page ≡ p → m.slot ≡ s → m.body ≡ body) → Comes p s (m ∷ ms) bytes body → Comes p s ms (cond (eqb m.page p) (with_body_in m.slot m.body bytes) bytes) body
one_comes p s m ms bytes body full l k brings comes =
    let stays : ((m.page ≡ p) × (m.slot ≡ s) → ⊥) → Comes p s ms bytes body =
    λ away. elim comes [
      | inl there ↦ inl there
      | inr c ↦
          elim c.1 [
            | inl is_m ↦ absurd (away (ap (λ (x : Met). x.page) (sym is_m) ∙ c.2, ap (λ (x : Met). x.slot) (sym is_m) ∙ c.3))
            | inr later ↦ inr (c.0, later, c.2, c.3)
          ]
    ] in
    elim (cases_eq m.page p) [
      | inl on ↦
          let e : eqb m.page p ≡ true = eq-eqb m.page p on in
          let C : Bool → Type 0 = λ b. Comes p s ms (cond b (with_body_in m.slot m.body bytes) bytes) body in
          subst C (sym e)
          (elim (cases_eq m.slot s) [
            | inl same ↦ inl (ap (λ j. body_in_slot j (with_body_in m.slot m.body bytes)) (sym same) ∙ with_body-body bytes m.body m.slot full l k ∙ brings on same)
            | inr differ ↦
                let Q : List ℕ → Type 0 = λ x. (x ≡ body) ⊎ ((c : Met) × In c ms × (c.page ≡ p) × (c.slot ≡ s)) in
                subst Q (sym (with_body-other bytes m.body m.slot full l k s (λ e. differ (sym e)))) (stays (λ both. differ both.1))
          ])
      | inr off ↦
          let e : eqb m.page p ≡ false = ne_eqb m.page p off in
          let C : Bool → Type 0 = λ b. Comes p s ms (cond b (with_body_in m.slot m.body bytes) bytes) body in
          subst C (sym e) (stays (λ both. off both.0))
    ]

-- a slot that is a file's place has the file's body, where all files of that place have this body
pub put_on-body : (p s : ℕ) (ms : List Met) (bytes body : List ℕ) → ArePlaced ms → length bytes ≡ 4096 → ((m : Met) → In m ms → m.page ≡ p → m.slot ≡ s → m.body ≡ body) → (body_in_slot s bytes ≡ body) ⊎ ((c : Met) × In c ms × (c.page ≡ p) × (c.slot ≡ s)) → body_in_slot s (put_on p ms bytes) ≡ body
put_on-body p s [] bytes body h full all (inl there) = there
put_on-body p s [] bytes body h full all (inr c) = absurd c.1
put_on-body p s (m ∷ ms) bytes body h full all comes =
    let pl = h m (inl refl) in
    put_on-body p s ms (cond (eqb m.page p) (with_body_in m.slot m.body bytes) bytes) body (λ x k. h x (inr k)) (one_length p m bytes full pl.0 pl.1) (λ x k. all x (inr k))
    (one_comes p s m ms bytes body full pl.0 pl.1 (all m (inl refl)) comes)
