-- Laws of the images that are stored, of their change from one point to another, and of look-ups of a flipped point and
-- its images. Assumes nothing.
use Rattle.std.specs.Prelude.{Bool, true, false, ◌||◌, ◌≡◌, refl, ℕ, suc, ◌+◌, ◌-◌, ◌*◌, ◌≤◌, ◌<◌, ◌^◌, eqb, length, get_or, set, take, drop, replicate}
use Rattle.std.proofs.Math.Bool.{xor}
use mathlib.Core.List.{List, [], ◌∷◌}
use Rattle.std.proofs.Common.{sym, ap₂, ◌∙◌, le_of_eq, le_refl, le_trans, lt_of_lt_of_le, not-suc-le-zero, arith, length-set, pow_pos, get_or-take, get_or-drop, get_or-set_same, get_or-set_other, take_all}
use Rattle.std.proofs.Math.Path.{ap, subst}
use Rattle.std.proofs.Math.Decide.{ℕ_discrete}
use Rattle.std.specs.Int.Bits.{bit_xor}
use Rattle.std.proofs.lemmas.Nat.{xor_lt}
use Rattle.std.proofs.lemmas.List.{length-map, length-replicate}
use Rattle.std.proofs.Math.ListN.{get_or-map}
use Rattle.math.specs.Laws.BitLaws.{bit_of_zero, bit-xor, bit-flip, bits_ext, bits_ext_below, flip-lt}
use Rattle.math.specs.Bits.{bit, flip, members}
use Rattle.math.specs.Laws.ListLaws.{get_d_in}
use Rattle.math.specs.Lists.{any, has, over}
use Rattle.math.specs.Laws.OverLaws.{over_none, over-take_next}
use Rattle.math.specs.Laws.PartLaws.{over-front, take-replicate}
use Rattle.math.specs.Laws.ScanLaws.{any_ends, any_stops, any_goes_on}
use Rattle.math.specs.Laws.SetLaws.{members_next}
use Rattle.points.specs.Points.{point_digits}
use Rattle.points.specs.Laws.Contracts.{NextVariable}
use Rattle.points.specs.Laws.NextLaws.{next_lowest, next_empty}
use Rattle.permutation_theory.proofs.ImageLaws.{image_differing, image_flip, image_sound, index_lt, moved-one, moved_none, sent_range}
use Rattle.permutation_theory.specs.Permutations.{Permutation, IsPermutation, moved, image_of_point, image_in, covered}
use Rattle.permutation_theory.specs.Permutations.{permutations_in}
use Rattle.permutation_images.specs.Laws.Contracts.{Movable, Fixes}
use Rattle.permutation_images.specs.Laws.LoopLaws.{no_permutation, length-permutations, permutation_at, listed_room}
use Rattle.permutation_images.specs.Laws.LoopLaws.{listed_movable}
use Rattle.permutation_images.specs.Laws.SetLaws.{fixes_none}
use Rattle.point_index.specs.Laws.Looking.{Askable}
use Rattle.permutation_coverage.specs.Laws.Coverage.{images_of, Permuting, Imaged, Coverable, Turns, Turning}
use Rattle.permutation_coverage.specs.Laws.Coverage.{Moving, Sends, Stays, Staying, numbers_at}

-- ---- the images of a point, stored one by one

module _ (n permutations : ℕ) (images : List ℕ) (x : ℕ) where
  length-images : length (images_of (permutations_in n permutations images) x) ≡ permutations
  length-images = length-map (permutations_in n permutations images) (λ (e : Permutation). image_of_point e x)
      ∙ length-permutations n permutations images

  -- the image of index i is that under the permutation of index i
  image_at_lem : (i : ℕ) → get_or (images_of (permutations_in n permutations images) x) i 0
      ≡ image_of_point (get_or (permutations_in n permutations images) i no_permutation) x
  unfolding image_of_point
  image_at_lem i = get_or-map (λ (e : Permutation). image_of_point e x) (permutations_in n permutations images) i
      no_permutation

  -- after i images come i + 1
  pub images_next : (old : List ℕ) (i y : ℕ) → i < permutations → i < length old
      → y ≡ image_of_point (get_or (permutations_in n permutations images) i no_permutation) x
      → set (over (take i (images_of (permutations_in n permutations images) x)) old) i y
      ≡ over (take (i + 1) (images_of (permutations_in n permutations images) x)) old
  images_next old i y lt room is =
      ap (set (over (take i (images_of (permutations_in n permutations images) x)) old) i) (is ∙ sym (image_at_lem i))
      ∙ over-take_next i (images_of (permutations_in n permutations images) x) old 0
      (lt_of_lt_of_le lt (le_of_eq (sym length-images))) room

  -- the last leaves all in front
  pub images_end : (new old : List ℕ) (i : ℕ) → permutations ≤ i
      → new ≡ over (take i (images_of (permutations_in n permutations images) x)) old
      → take permutations new ≡ images_of (permutations_in n permutations images) x
  images_end new old i ge is =
      ap (take permutations) (is ∙ ap (λ (l : List ℕ). over l old)
      (take_all i (images_of (permutations_in n permutations images) x) (le_trans (le_of_eq length-images) ge)))
      ∙ over-front permutations (images_of (permutations_in n permutations images) x) old length-images

-- an array of zeros has the images of the empty point, which are empty
pub imaged_none : (n permutations size : ℕ) (images : List ℕ) → permutations ≤ size
    → Imaged n permutations images 0 (replicate size 0)
unfolding image_of_point
imaged_none n permutations size images le =
    record {
      enough = le_trans le (le_of_eq (sym (length-replicate {A = ℕ} size 0)));
      narrow = pow_pos n;
      imaged = take-replicate permutations size 0 le
          ∙ ap (λ (k : ℕ). replicate k 0) (sym (length-permutations n permutations images))
          ∙ sym (each (permutations_in n permutations images));
    }
  where
    each : (es : List Permutation) → images_of es 0 ≡ replicate (length es) 0
    each [] = refl
    each (e ∷ es) = ap₂ (λ (y : ℕ) (l : List ℕ). y ∷ l) (moved_none e.images) (each es)

-- ---- the image of a flipped point under one permutation, and of one that differs in several variables

module _ {n permutations : ℕ} {images : List ℕ} (g : Permuting n permutations images) (i : ℕ) (lt : i < permutations)
  where
    inside_all : i < length (permutations_in n permutations images)
    inside_all = lt_of_lt_of_le lt (le_of_eq (sym (length-permutations n permutations images)))

    abbrev own : Permutation
    own = get_or (permutations_in n permutations images) i no_permutation

    own_proper : IsPermutation n own
    own_proper = g.proper own (get_d_in (permutations_in n permutations images) i no_permutation inside_all)

    -- the image of a point under it is at index i
    held : (moved : List ℕ) (x : ℕ) → take permutations moved ≡ images_of (permutations_in n permutations images) x
        → get_or moved i 0 ≡ image_of_point own x
    held moved x imaged = sym (get_or-take permutations moved i 0 lt) ∙ ap (λ (l : List ℕ). get_or l i 0) imaged
        ∙ image_at_lem n permutations images x i

    -- that of another is this, changed where the variables are sent in which the points differ
    pub image_changed : (moved : List ℕ) (x s y : ℕ)
        → take permutations moved ≡ images_of (permutations_in n permutations images) x
        → y ≡ bit_xor (get_or moved i 0) (image_of_point (record { images = numbers_at n i images }) s)
        → y ≡ image_of_point own (bit_xor x s)
    image_changed moved x s y imaged is =
        is ∙ ap₂ bit_xor (held moved x imaged)
        (ap (λ (e : Permutation). image_of_point e s) (sym (permutation_at n permutations i images no_permutation lt)))
        ∙ sym (image_differing n own own_proper x s)

    module _ (v : ℕ) (inside : v < n) where
      -- where it sends v, read in the bytes
      byte : get_or images (i * n + v) 0 ≡ get_or own.images v 0
      byte =
          sym (ap (λ (e : Permutation). get_or e.images v 0) (permutation_at n permutations i images no_permutation lt)
          ∙ get_or-take n _ v 0 inside ∙ get_or-drop (i * n) images v 0)

      pub flip_sends : Sends n i v images
      flip_sends =
          let room = listed_room n permutations i images g.listed lt in
          let range = sent_range n own own_proper v inside in
          let few = g.few in
          record {
            within = lt_of_lt_of_le inside few;
            room = omega arith;
            low = omega (arith, byte, range.0);
            high = omega (arith, byte, range.1, few);
          }

      -- and that of the point with v flipped is this, flipped there
      pub image_flipped : (moved : List ℕ) (x y : ℕ)
          → take permutations moved ≡ images_of (permutations_in n permutations images) x
          → y ≡ flip (get_or moved i 0) (get_or images (i * n + v) 0 - 1)
          → y ≡ image_of_point own (flip x v)
      image_flipped moved x y imaged is = is ∙ ap₂ (λ (z u : ℕ). flip z (u - 1)) (held moved x imaged) byte
          ∙ sym (image_flip n own own_proper x v inside)

      -- to flip an image there is to change it where v alone is sent
      pub flip_changes : (image : ℕ) → flip image (get_or images (i * n + v) 0 - 1)
          ≡ bit_xor image (image_of_point (record { images = numbers_at n i images }) (2 ^ v))
      unfolding flip image_of_point
      flip_changes image =
          ap (bit_xor image)
          (ap (λ (u : ℕ). 2 ^ (u - 1)) byte ∙ sym (moved-one own.images v (index_lt n own own_proper v inside))
          ∙ ap (λ (e : Permutation). moved e.images (2 ^ v))
          (permutation_at n permutations i images no_permutation lt))

-- ---- all images turned, one by one

module _ (n permutations : ℕ) (images : List ℕ) (s : ℕ) (old : List ℕ) where
  pub turning_begins : Turning n permutations images s old 0 old
  turning_begins = record { lengths = refl; turned = λ x e. sym (over_none old); rest = λ j le. refl }

  -- one image more, whichever way it was made
  module _ (g : Permuting n permutations images) (enough : permutations ≤ length old) {i : ℕ} {moved : List ℕ}
      (t : Turning n permutations images s old i moved) (lt : i < permutations) (y : ℕ) (moved' : List ℕ)
      (stored : moved' ≡ set moved i y) where
    goes_on : ((x : ℕ) → take permutations old ≡ images_of (permutations_in n permutations images) x
        → y ≡ image_of_point (own g i lt) (bit_xor x s)) → Turning n permutations images s old (i + 1) moved'
    goes_on is =
        record {
          lengths = ap length stored ∙ length-set moved i y ∙ t.lengths;
          turned = λ x e.
              stored ∙ ap (λ (l : List ℕ). set l i y) (t.turned x e)
              ∙ images_next n permutations images (bit_xor x s) old i y lt (lt_of_lt_of_le lt enough) (is x e);
          rest = λ j le.
              ap (λ (l : List ℕ). get_or l j 0) stored
              ∙ get_or-set_other moved i j y 0 (λ e. let z : ⊥ = omega arith in z) ∙ t.rest j (omega arith);
        }

    pub turning_flips : (v : ℕ) → v < n → s ≡ 2 ^ v → y ≡ flip (get_or moved i 0) (get_or images (i * n + v) 0 - 1)
        → Turning n permutations images s old (i + 1) moved'
    unfolding flip
    turning_flips v inside one is =
        goes_on (λ x e. image_flipped g i lt v inside old x y e
        (is ∙ ap (λ (z : ℕ). flip z (get_or images (i * n + v) 0 - 1)) (t.rest i (le_refl i)))
        ∙ ap (λ (z : ℕ). image_of_point (own g i lt) (bit_xor x z)) (sym one))

    pub turning_changes : y ≡ bit_xor (get_or moved i 0) (image_of_point (record { images = numbers_at n i images }) s)
        → Turning n permutations images s old (i + 1) moved'
    turning_changes is =
        goes_on (λ x e. image_changed g i lt old x s y e
        (is ∙ ap (λ (z : ℕ). bit_xor z (image_of_point (record { images = numbers_at n i images }) s))
        (t.rest i (le_refl i))))

  pub turning_ends : {i : ℕ} {moved : List ℕ} → Turning n permutations images s old i moved → permutations ≤ i
      → Turns n permutations images s old moved
  turning_ends {i} {moved} t ge x e = images_end n permutations images (bit_xor x s) moved old i ge (t.turned x e)

-- ---- the variables that stay

module _ {n : ℕ} {images : List ℕ} where
  -- no set, for no permutation
  pub staying_none : {stay : List ℕ} → Staying n 0 images stay
  staying_none = record { still = λ i lt. absurd (not-suc-le-zero lt) }

  -- one set more
  pub staying_next : {i : ℕ} {stay : List ℕ} → Staying n i images stay → i < length stay → (f : ℕ)
      → {es : List ℕ} → es ≡ numbers_at n i images → Fixes es (length es) f → (stay' : List ℕ) → stay' ≡ set stay i f
      → Staying n (i + 1) images stay'
  staying_next {i} {stay} w room f at own-set stay' stored = record { still = λ j lt. by j lt (ℕ_discrete j i) }
    where
      by : (j : ℕ) → j < i + 1 → Dec (j ≡ i)
          → Fixes (numbers_at n j images) (length (numbers_at n j images)) (get_or stay' j 0)
      by j lt (yes e) =
          subst (λ (k : ℕ). Fixes (numbers_at n k images) (length (numbers_at n k images)) (get_or stay' k 0)) (sym e)
          (subst (Fixes (numbers_at n i images) (length (numbers_at n i images)))
          (sym (ap (λ (l : List ℕ). get_or l i 0) stored ∙ get_or-set_same stay i f 0 room))
          (subst (λ (l : List ℕ). Fixes l (length l) f) at own-set))
      by j lt (no ne) =
          subst (Fixes (numbers_at n j images) (length (numbers_at n j images)))
          (sym (ap (λ (l : List ℕ). get_or l j 0) stored ∙ get_or-set_other stay i j f 0 ne))
          (w.still j (let z : j < i = omega arith in z))

  -- no set for any
  pub staying_empty : {k : ℕ} → Staying n k images []
  staying_empty = record { still = λ i lt. fixes_none }

  -- the first k sets, for k permutations
  pub staying_front : {k : ℕ} {stay : List ℕ} → Staying n k images stay → Staying n k images (take k stay)
  staying_front {k} {stay} w = record {
    still = λ i lt. subst (Fixes (numbers_at n i images) (length (numbers_at n i images)))
        (sym (get_or-take k stay i 0 lt)) (w.still i lt);
  }

  -- the last set
  pub staying_all : {i k : ℕ} {stay : List ℕ} → Staying n i images stay → k ≤ i → Staying n k images stay
  staying_all w le = record { still = λ j lt. w.still j (lt_of_lt_of_le lt le) }

  -- the set of one permutation
  pub staying_at : {permutations i : ℕ} → Permuting n permutations images → i < permutations → {stay : List ℕ}
      → Staying n permutations images stay → Stays n i images stay
  staying_at {permutations} {i} g lt w =
      record {
        room = listed_room n permutations i images g.listed lt;
        movable = listed_movable n permutations i images g.listed lt;
        still = w.still i lt;
      }

  -- by which a set is sent
  module _ {i : ℕ} {stay es : List ℕ} (w : Stays n i images stay) (at : es ≡ numbers_at n i images) where
    pub stays_sent : {f : ℕ} → f ≡ get_or stay i 0 → Movable es × Fixes es (length es) f
    stays_sent {f} is = (
      subst Movable (sym at) w.movable,
      subst (λ (l : List ℕ). Fixes l (length l) f) (sym at)
          (subst (Fixes (numbers_at n i images) (length (numbers_at n i images))) (sym is) w.still),
    )

    pub sent_by : (s : ℕ) {y : ℕ} → y ≡ moved es s → y ≡ image_of_point (record { images = numbers_at n i images }) s
    unfolding image_of_point
    sent_by s is = is ∙ ap (λ (l : List ℕ). moved l s) at

-- ---- from the images of one point to those of another

differs_less : (a b c d : Bool) → a ≡ xor b c → xor a d ≡ xor (xor b d) c
unfolding xor
differs_less a b c d e = ap (λ (z : Bool). xor z d) e ∙ by b c d
  where
    by : (b c d : Bool) → xor (xor b c) d ≡ xor (xor b d) c
    by true true true = refl
    by true true false = refl
    by true false true = refl
    by true false false = refl
    by false true true = refl
    by false true false = refl
    by false false true = refl
    by false false false = refl

no_difference : (b c : Bool) → false ≡ xor b c → b ≡ c
unfolding xor
no_difference true true e = refl
no_difference true false e = sym e
no_difference false true e = e
no_difference false false e = refl

module _ {n permutations : ℕ} {images : List ℕ} (few : n ≤ point_digits) (y : ℕ) (small : y < 2 ^ n) where
  pub moving_begins : (x left v : ℕ) (moved : List ℕ) → Imaged n permutations images x moved → left ≡ bit_xor x y
      → NextVariable left v → Moving n permutations images y left v moved
  moving_begins x left v moved m is next =
      record {
        reached = x;
        narrow = m.narrow;
        within = subst (λ (z : ℕ). z < 2 ^ n) (sym is) (xor_lt n x y m.narrow small);
        next = next;
        differ = λ i. ap (λ (z : ℕ). bit z i) is ∙ bit-xor x y i;
        imaged = m.imaged;
      }

  module _ {left v : ℕ} {moved : List ℕ} (m : Moving n permutations images y left v moved) where
    pub moving_less : (left' : ℕ) → v < n → left' ≡ flip left v → length (members n left') < length (members n left)
    moving_less left' lt q = le_of_eq (ap (λ (z : ℕ). suc (length (members n z))) q
        ∙ sym (ap length (members_next n left v (next_lowest n left v few m.next lt) lt)))

    pub moving_goes_on : v < n → {moved' : List ℕ} → Turns n permutations images (2 ^ v) moved moved' → (left' v' : ℕ)
        → left' ≡ flip left v → NextVariable left' v' → Moving n permutations images y left' v' moved'
    unfolding flip
    moving_goes_on lt turned left' v' q next =
        record {
          reached = flip m.reached v;
          narrow = flip-lt n m.reached v m.narrow lt;
          within = subst (λ (z : ℕ). z < 2 ^ n) (sym q) (flip-lt n left v m.within lt);
          next = next;
          differ = λ i.
              ap (λ (z : ℕ). bit z i) q ∙ bit-flip left v i
              ∙ differs_less (bit left i) (bit m.reached i) (bit y i) (eqb v i) (m.differ i)
              ∙ ap (λ (b : Bool). xor b (bit y i)) (sym (bit-flip m.reached v i));
          imaged = turned m.reached m.imaged;
        }

    pub moving_ends : n ≤ v → permutations ≤ length moved → Imaged n permutations images y moved
    moving_ends ge enough = record {
      enough = enough;
      narrow = small;
      imaged = m.imaged
          ∙ ap (images_of (permutations_in n permutations images)) same;
    }
      where
        none : left ≡ 0
        none = next_empty n left v m.next m.within ge

        same : m.reached ≡ y
        same =
            bits_ext_below n m.reached y m.narrow small (λ i lt.
            no_difference (bit m.reached i) (bit y i)
            (sym (bit_of_zero i) ∙ ap (λ (z : ℕ). bit z i) (sym none) ∙ m.differ i))

differs_twice : (a b : Bool) → xor a (xor a b) ≡ b
unfolding xor
differs_twice true true = refl
differs_twice true false = refl
differs_twice false true = refl
differs_twice false false = refl

-- all variables in which they differ at once
pub turns_imaged : {n permutations : ℕ} {images : List ℕ} {x y s : ℕ} {old new : List ℕ}
    → Imaged n permutations images x old → y < 2 ^ n → s ≡ bit_xor x y → length new ≡ length old
    → Turns n permutations images s old new → Imaged n permutations images y new
turns_imaged {n} {permutations} {images} {x} {y} {s} {old} {new} m small is lengths turned =
    record {
      enough = le_trans m.enough (le_of_eq (sym lengths));
      narrow = small;
      imaged = turned x m.imaged
          ∙ ap (images_of (permutations_in n permutations images)) (ap (bit_xor x) is ∙ there_and_back);
    }
  where
    there_and_back : bit_xor x (bit_xor x y) ≡ y
    there_and_back =
        bits_ext (bit_xor x (bit_xor x y)) y (λ i.
        bit-xor x (bit_xor x y) i ∙ ap (xor (bit x i)) (bit-xor x y i) ∙ differs_twice (bit x i) (bit y i))

-- ---- the look-ups of a flipped point and of its images

module _ (n k : ℕ) (points : List ℕ) (permutations : ℕ) (images : List ℕ) (x v : ℕ) where
  abbrev es : List Permutation
  es = permutations_in n permutations images

  -- whether the flipped point or one of its images is among the points
  abbrev whole : Bool
  whole = covered es (take k points) (flip x v)

  -- whether its image under a permutation from index i on is
  abbrev from : ℕ → Bool
  from i = any (image_in (take k points) (flip x v)) (drop i es)

  module _ {heads : ℕ} {links : List ℕ} (a : Askable heads n (take k points) links x) (inside : v < n) where
    -- whatever has n digits can be looked up
    asks : (y z : ℕ) → y ≡ z → z < 2 ^ n → Askable heads n (take k points) links y
    asks y z same lt =
        record { few = a.few; indexed = a.indexed; narrow = subst (λ (w : ℕ). w < 2 ^ n) (sym same) lt }

    module _ (y : ℕ) (is : y ≡ flip x v) where
      pub flip_askable : Askable heads n (take k points) links y
      flip_askable = asks y (flip x v) is (flip-lt n x v a.narrow inside)

      module _ (found : Bool) (promised : found ≡ has y (take k points)) where
        first : whole ≡ found || from 0
        unfolding covered
        first = ap (λ (b : Bool). b || from 0) (sym (promised ∙ ap (λ (z : ℕ). has z (take k points)) is))

        pub flip_found : found ≡ true → true ≡ whole
        flip_found e = sym (first ∙ ap (λ (b : Bool). b || from 0) e)

        pub flip-not_found : found ≡ false → whole ≡ from 0
        flip-not_found e = first ∙ ap (λ (b : Bool). b || from 0) e

module _ {heads n k : ℕ} {points links : List ℕ} {permutations : ℕ} {images moved : List ℕ} {x : ℕ}
    (c : Coverable heads n k points links permutations images moved x) (v : ℕ) (inside : v < n) where
  abbrev listed : List Permutation
  listed = es n k points permutations images x v

  abbrev image_from : ℕ → Bool
  image_from i = from n k points permutations images x v i

  module _ (i : ℕ) (lt : i < permutations) where
    abbrev sender : Permutation
    sender = get_or listed i no_permutation

    among : i < length listed
    among = inside_all c.permuting i lt

    module _ (y : ℕ) (is : y ≡ flip (get_or moved i 0) (get_or images (i * n + v) 0 - 1)) where
      image_is : y ≡ image_of_point sender (flip x v)
      image_is = image_flipped c.permuting i lt v inside moved x y c.imaged is

      pub image_askable : Askable heads n (take k points) links y
      image_askable =
          asks n k points permutations images x v c.askable inside y (image_of_point sender (flip x v)) image_is
          (image_sound n sender (c.permuting.proper sender (get_d_in listed i no_permutation among)) (flip x v)).within

      module _ (left : image_from 0 ≡ image_from i) (found : Bool) (promised : found ≡ has y (take k points)) where
        tested : image_in (take k points) (flip x v) sender ≡ found
        tested = sym (promised ∙ ap (λ (z : ℕ). has z (take k points)) image_is)

        pub image_found : found ≡ true → true ≡ image_from 0
        image_found e = sym (left ∙ any_stops (image_in (take k points) (flip x v)) listed no_permutation i among
            (tested ∙ e))

        pub image_not_found : found ≡ false → image_from 0 ≡ image_from (i + 1)
        image_not_found e = left ∙ any_goes_on (image_in (take k points) (flip x v)) listed no_permutation i among
            (tested ∙ e)

  pub none_found : (i : ℕ) → permutations ≤ i → image_from 0 ≡ image_from i → false ≡ image_from 0
  none_found i ge left =
      sym (left ∙ any_ends (image_in (take k points) (flip x v)) listed no_permutation i
      (le_trans (le_of_eq (length-permutations n permutations images)) ge))
