-- One more ad, for the loop that copies those that are fresh.
use Rattle.std.proofs.Common.{◌≡◌, ℕ, ◌+◌, ◌<◌, List, [], ◌∷◌, ◌++◌, length, get_or, take, map, Bool, true, false, cond, refl, sym, ap, ◌∙◌, filter}
use Rattle.std.proofs.lemmas.List.{take_more, append-nil}
use Rattle.std.proofs.lemmas.List.Elements.{filter-append}
use Rattle.pool_mail.specs.declared.slot_ad.SlotAd.{SlotAd}
use Rattle.matchmaker.specs.declared.kept.KeptAd.{KeptAd}
use Rattle.matchmaker.specs.Kept.{is_fresh, fresh_ads}

ads_append : (js ks : List KeptAd) → map (λ (k : KeptAd). k.ad) (js ++ ks) ≡ map (λ (k : KeptAd). k.ad) js ++ map (λ (k : KeptAd). k.ad) ks
ads_append [] ks = refl
ads_append (j ∷ js) ks = ap (λ (l : List SlotAd). j.ad ∷ l) (ads_append js ks)

next_ad : (lifetime now : ℕ) (ks : List KeptAd) (i : ℕ) (x : KeptAd) (b : Bool) → i < length ks → x ≡ get_or ks i x → b ≡ is_fresh lifetime now x →
    fresh_ads lifetime now (take i ks) ++ map (λ (k : KeptAd). k.ad) (cond b (x ∷ []) []) ≡ fresh_ads lifetime now (take (i + 1) ks)
next_ad lifetime now ks i x b h e f =
    let p = is_fresh lifetime now in
    ap (λ (t : Bool). fresh_ads lifetime now (take i ks) ++ map (λ (k : KeptAd). k.ad) (cond t (x ∷ []) [])) f
    ∙ (sym (ads_append (filter p (take i ks)) (filter p (x ∷ [])))
    ∙ (ap (map (λ (k : KeptAd). k.ad)) (sym (filter-append p (take i ks) (x ∷ [])))
    ∙ (ap (λ (y : KeptAd). fresh_ads lifetime now (take i ks ++ y ∷ [])) e ∙ ap (fresh_ads lifetime now) (sym (take_more ks i x h)))))

pub fresh_more : (lifetime now : ℕ) (ks : List KeptAd) (i : ℕ) (x : KeptAd) (ad : SlotAd) (ads later : List SlotAd) (b : Bool) → i < length ks → x ≡ get_or ks i x →
    b ≡ is_fresh lifetime now x → b ≡ true → ad ≡ x.ad → ads ≡ fresh_ads lifetime now (take i ks) → later ≡ ads ++ ad ∷ [] → later ≡ fresh_ads lifetime now (take (i + 1) ks)
fresh_more lifetime now ks i x ad ads later b h e f passes copy so_far more =
    more ∙ ((λ j. so_far j ++ copy j ∷ []) ∙ next_ad lifetime now ks i x true h e (sym passes ∙ f))

pub old_more : (lifetime now : ℕ) (ks : List KeptAd) (i : ℕ) (x : KeptAd) (ads later : List SlotAd) (b : Bool) → i < length ks → x ≡ get_or ks i x →
    b ≡ is_fresh lifetime now x → b ≡ false → ads ≡ fresh_ads lifetime now (take i ks) → later ≡ ads → later ≡ fresh_ads lifetime now (take (i + 1) ks)
old_more lifetime now ks i x ads later b h e f fails so_far same =
    same ∙ (so_far ∙ (sym (append-nil (fresh_ads lifetime now (take i ks))) ∙ next_ad lifetime now ks i x false h e (sym fails ∙ f)))
