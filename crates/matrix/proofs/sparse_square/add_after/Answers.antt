-- None, one or two blocks, as the lengths tell.
use Rattle.std.proofs.Common.{rules}
use Rattle.matrix.specs.Rows.{row4, block16}
use Rattle.matrix.proofs.Products.{no_products, one_product, two_products}
use Rattle.matrix.proofs.sparse_square.add_after.Goals as goal

pub returns-in_default-clause-value : goal.returns-in_default-clause-value
returns-in_default-clause-value c = no_products _ _ _ _ c.in_default.len_below

pub returns-in-len1-len1-clause-value : goal.returns-in-len1-len1-clause-value
returns-in-len1-len1-clause-value c = one_product _ _ _ _ (search rules) (search rules) c.add_product.ensures.value

pub returns-in-len2-len2-clause-value : goal.returns-in-len2-len2-clause-value
unfolding row4 block16
returns-in-len2-len2-clause-value c = two_products _ _ _ _ (search rules) (search rules) c.add_product-in-len2-len2.ensures.value c.add_product-in-len2-len2-2.ensures.value
