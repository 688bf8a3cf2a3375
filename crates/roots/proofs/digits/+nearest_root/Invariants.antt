-- Each call settles one digit, so the number of those that are left falls.
use Rattle.roots.proofs.digits.+nearest_root.Given as goal

abbrev pub decreases-nearest_root : goal.decreases-nearest_root
decreases-nearest_root l = l.left
