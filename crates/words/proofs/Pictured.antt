-- The picture is the only row of rows that holds exactly the live states in ascending order. Assumes nothing.
use Prim.Native.Nat.{ℕ}
use mathlib.Core.Path.{◌≡◌}
use mathlib.Core.List.{List}
use Rattle.words.specs.Picture.{picture, IsPicture}
use Rattle.words.specs.Words.{EachJournal}
use Rattle.words.proofs.Members.{picture_members, picture_ascending}
use Rattle.words.proofs.Order.{unique}
use Rattle.words.proofs.Place.{short}

-- the picture is one
pub picture_is : (js : List (List ℕ)) → EachJournal js → IsPicture js (picture js)
picture_is js k = record { live_states = picture_members js (short js k); ascending = picture_ascending js }

-- and two pictures of the same journals are equal
pub one_picture : (js l m : List (List ℕ)) → IsPicture js l → IsPicture js m → l ≡ m
one_picture js l m p q =
    unique l m p.ascending q.ascending (λ a i. (q.live_states a).1 ((p.live_states a).0 i)) (λ a i. (p.live_states a).1 ((q.live_states a).0 i))
