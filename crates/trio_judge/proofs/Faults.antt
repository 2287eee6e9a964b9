-- Where I2 and I4 fail, whatever files and entries come behind.
use Rattle.trio_judge.proofs.Words.{◌++◌, ◌∙◌, ◌∷◌, ◌≡◌, Case, FaultAt, In, In-left, In-right, IsForeign, List, Met, OwningFails, PageListing, RightsFail, [], ap, append-nil, append_assoc, at_page, bundle_pages, entry_is_own, entry_keeps_rights, false, file_in, file_keeps_rights, flat_map, flat_map-append, inl, inr, is_among, judged_entries, judged_listings, map, map-append, nowhere, numbers, pages_within, refl, subst, sym, true, ℕ}
use Rattle.trio_layout.specs.JudgedFiles.{judged_files}

-- the place of an entry
abbrev pub entry_fault : Met → FaultAt
entry_fault e = record { ino = e.parent; place = record { page = e.page; slot = e.slot } }

pub in_middle : {X : Type 0} (xs : List X) (x : X) (ys zs : List X) → zs ≡ (xs ++ x ∷ []) ++ ys → In x zs
in_middle xs x ys zs e = subst (λ l. In x l) (sym e) (In-left x (xs ++ x ∷ []) ys (In-right x xs (x ∷ []) (inl refl)))

-- ---- entries

pub entry_foreign : (c : Case) (done es : List Met) (e : Met) → entry_is_own c e ≡ false → OwningFails c done (es ++ e ∷ []) (entry_fault e)
entry_foreign c done es e h = λ rest more a b.
    inr (inr (inl (e, record { among = in_middle es e more (judged_entries c) b; directory = refl; page = refl; slot = refl }, h)))

pub entry_again : (c : Case) (done es : List Met) (e : Met) → is_among e.ino (numbers es) ≡ true → OwningFails c done (es ++ e ∷ []) (entry_fault e)
entry_again c done es e h = λ rest more a b.
    inr (inr (inr (record { earlier = es; again = e; later = more; order = b ∙ append_assoc es (e ∷ []) more; directory = refl; page = refl; slot = refl; seen = h })))

pub entry_denied : (c : Case) (done es : List Met) (e : Met) → entry_keeps_rights c e ≡ false → RightsFail c done (es ++ e ∷ []) (entry_fault e)
entry_denied c done es e h = λ rest more a b.
    inl (e, record { among = in_middle es e more (judged_entries c) b; directory = refl; page = refl; slot = refl }, h)

-- ---- files

pub file_denied : (c : Case) (done es : List Met) (m : Met) → file_keeps_rights c m (file_in c m) ≡ false → RightsFail c (done ++ m ∷ []) es (record { ino = m.ino; place = nowhere })
file_denied c done es m h = λ rest more a b.
    inr (m, record { among = in_middle done m rest (judged_files c) a; number = refl }, h, refl)

map-page : (ino : ℕ) (ps : List ℕ) → map (λ (l : PageListing). l.page) (map (λ (p : ℕ). record { ino = ino; page = p }) ps) ≡ ps
map-page ino [] = refl
map-page ino (p ∷ ps) = ap (λ l. p ∷ l) (map-page ino ps)

pub pages-listed : (c : Case) (ms : List Met) → map (λ (l : PageListing). l.page) (flat_map (λ m. map (λ p. record { ino = m.ino; page = p }) (pages_within c m)) ms) ≡ flat_map (pages_within c) ms
pages-listed c [] = refl
pages-listed c (m ∷ ms) =
    map-append (λ (l : PageListing). l.page) (map (λ p. record { ino = m.ino; page = p }) (pages_within c m)) _ ∙ rw (map-page m.ino (pages_within c m), pages-listed c ms) refl

pub page_fails : (c : Case) (done es : List Met) (m : Met) (page : ℕ) → IsForeign (bundle_pages c.bundle) (flat_map (pages_within c) done) (pages_within c m) page → OwningFails c (done ++ m ∷ []) es (record { ino = m.ino; place = at_page page })
page_fails c done es m page f = λ rest more a b.
    elim f.fault [
      | inl foreign ↦
          inl (page, (m, record { among = in_middle done m rest (judged_files c) a; number = refl }, subst (λ l. In page l) (sym f.order) (In-right page f.earlier (page ∷ f.later) (inl refl)), foreign), refl)
      | inr again ↦
          let g : Met → List PageListing = λ n. map (λ p. record { ino = n.ino; page = p }) (pages_within c n) in
          let pl : ℕ → PageListing = λ p. record { ino = m.ino; page = p } in
          let here : g m ≡ map pl f.earlier ++ pl page ∷ map pl f.later = ap (map pl) f.order ∙ map-append pl f.earlier (page ∷ f.later) in
          let all : judged_listings c ≡ (flat_map g done ++ g m) ++ flat_map g rest =
          ap (flat_map g) a ∙ flat_map-append g (done ++ m ∷ []) rest ∙ ap (λ l. l ++ flat_map g rest) (flat_map-append g done (m ∷ []) ∙ ap (λ l. flat_map g done ++ l) (append-nil (g m))) in
          let order : judged_listings c ≡ (flat_map g done ++ map pl f.earlier) ++ pl page ∷ (map pl f.later ++ flat_map g rest) =
          all ∙ ap (λ l. (flat_map g done ++ l) ++ flat_map g rest) here ∙ simp append_assoc in
          let seen : map (λ (l : PageListing). l.page) (flat_map g done ++ map pl f.earlier) ≡ flat_map (pages_within c) done ++ f.earlier =
          map-append (λ (l : PageListing). l.page) (flat_map g done) (map pl f.earlier) ∙ rw (pages-listed c done, map-page m.ino f.earlier) refl in
          inr (inl (page, record { earlier = flat_map g done ++ map pl f.earlier; later = map pl f.later ++ flat_map g rest; order = order; seen = ap (is_among page) seen ∙ again }, refl))
    ]
